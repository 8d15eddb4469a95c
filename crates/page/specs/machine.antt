-- Machine, not meaning.
pub mod Columns
