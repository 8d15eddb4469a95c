-- Machine, not meaning.
pub mod Scan
