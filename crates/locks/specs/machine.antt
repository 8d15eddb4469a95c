-- Machine, not meaning.
-- What a sector's field begins with
pub mod Marks
