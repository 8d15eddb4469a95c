-- Machines, not meaning.
-- How far the pass over them came
pub mod Along
-- What the functions of the reader hand to each other
pub mod Read
