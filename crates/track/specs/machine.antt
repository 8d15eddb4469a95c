-- Machine, not meaning.
pub mod Insertion
