-- Machines, not meaning. This crate has no meaning of its own: laws above give it one (`symbols/proofs/WordLaws`:
-- `word_verdict`; `images/proofs/ReadLaws`: `owner_is_candidate`, `ruly_where_candidate_has`).
-- The byte of a word
pub mod Candidate
-- A word of half cells
pub mod Word
