-- Machine, not meaning.
pub mod Bytes
