-- Machines, not meaning: laws tie them to Reading, Bytes and Strip (`proofs/AnswerLaws`, `proofs/RunLaws`).
-- The reading of cells
pub mod Step
-- Where gaps begin, by units
pub mod Gaps
