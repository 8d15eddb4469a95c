-- Machines, not meaning.
-- The units of an interval by the edges alone
pub mod Edges
