-- Machine, not meaning.
pub mod Cut
