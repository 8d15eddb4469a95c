-- Machine, not meaning.
pub mod Tests
