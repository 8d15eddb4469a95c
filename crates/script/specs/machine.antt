-- Machine, not meaning.
pub mod Read
