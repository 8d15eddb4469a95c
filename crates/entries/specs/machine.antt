-- Machine, not meaning.
pub mod Steps
