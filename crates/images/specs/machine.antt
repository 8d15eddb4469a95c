-- Machines, not meaning.
-- The half cells of a word
pub mod TopBits
-- The cells of a list, counted
pub mod Tally
