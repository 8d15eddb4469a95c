-- Machines, not meaning.
-- How the pass over a field ends
pub mod End
-- What is gathered, and handed over
pub mod Gather
