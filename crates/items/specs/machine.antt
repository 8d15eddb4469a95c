-- Machine, not meaning.
pub mod Lanes
