-- One word: the table, the test over all words
pub mod WordLaws
-- Words and cells
pub mod DistanceLaws
pub mod CountLaws
pub mod TallyLaws
-- Words and bytes
pub mod ReadLaws
pub mod ImageLaws
pub mod RuleLaws
pub mod MakeLaws
-- The laws of the crate, and the definitions tried on published words
pub mod Claims
pub mod Cases
