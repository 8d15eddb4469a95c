-- Machines, not meaning.
-- The pass that both readers share
pub mod Pass
-- The same pass, four cells at a time
pub mod Fours
