-- Machines, not meaning.
-- What is kept of the intervals met
pub mod Nearest
-- Interval by interval, with where the classing stands
pub mod Seen
-- By masks of the kinds
pub mod Masks
