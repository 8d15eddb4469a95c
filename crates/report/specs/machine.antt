-- Machine, not meaning.
pub mod Compare
