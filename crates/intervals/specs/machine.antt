-- Machines, not meaning.
-- The units of a block, after either kind
pub mod Either
-- Whether intervals are cells
pub mod Inside
