pub mod SectorReads
pub mod NoLockInData
pub mod TrackIndexed
pub mod TrackRead
pub mod SectorClears
pub mod OldDisks
pub mod SlowReads
pub mod MastersReadBack
