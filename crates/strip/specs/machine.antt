-- Machine, not meaning.
pub mod Room
