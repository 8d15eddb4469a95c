-- Machines, not meaning.
-- Lengths by the data bits around a cell's end
pub mod Windows
-- Written bytes to lengths
pub mod Pen
