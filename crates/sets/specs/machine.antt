-- Machines, not meaning.
-- Where a set has its numbers
pub mod Index
-- Between which numbers
pub mod Span
