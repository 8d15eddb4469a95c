-- Machines, not meaning.
-- A pass block after block
pub mod Blocks
-- Eight cells in one number
pub mod Lanes
-- A pass that only looks
pub mod Look
