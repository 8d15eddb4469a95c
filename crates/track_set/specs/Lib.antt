pub mod TrackSectors
pub mod machine
