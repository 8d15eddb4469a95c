pub mod FillLaws
pub mod SectorCounts
pub mod Claims
