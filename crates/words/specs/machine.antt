-- Machine, not meaning.
pub mod Spread
