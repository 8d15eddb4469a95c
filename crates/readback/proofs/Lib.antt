-- The sector's written bytes, and the classes of their cells
pub mod WrittenSector
pub mod CellClasses
-- A field with its check bytes, a field and a sector ahead of a search
pub mod CheckedField
pub mod FieldAhead
pub mod FieldIndexed
pub mod SectorAhead
-- The law of one sector
pub mod SectorReads
-- No lock in data, and the page with every dot raised
pub mod NoLockInData
pub mod EveryDotRaised
-- The law of a track of sectors
pub mod SectorIndexed
pub mod TrackFound
pub mod TrackIndexed
-- A track read as a set, and merged
pub mod SetOrder
pub mod TrackSet
pub mod PassLaws
pub mod CountOnce
pub mod TrackRead
-- The clearances of its fields
pub mod SectorClears
-- Slow drives
pub mod SlowReads
-- Old disks
pub mod OldDisks
pub mod Masters
pub mod MastersReadBack
