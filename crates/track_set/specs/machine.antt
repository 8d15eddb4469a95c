-- Machine, not meaning.
pub mod Handed
