-- Laws of tests, which the others share
pub mod TestLaws
-- A byte and its row of letters
pub mod RowLaws
-- Letters and cells
pub mod ReadingLaws
pub mod TokenLaws
-- Bytes and letters
pub mod BytesLaws
-- The laws of the crate: reading what was written, and writing what was read
pub mod RoundTripLaws
-- The definitions tried on settled cases
pub mod Cases
-- Units, cells and bits
pub mod UnitLaws
-- Reading from the middle
pub mod MiddleLaws
-- The cells of the bytes that a track is laid out with
pub mod FormatLaws
-- The reading machine, bottom to top
pub mod CellLaws
pub mod PlaceLaws
pub mod HalfCells
pub mod HalfLaws
pub mod WordLaws
pub mod NumberLaws
pub mod SourceLaws
pub mod ReadsLaws
pub mod ClosingLaws
pub mod WholeLaws
pub mod EaseLaws
pub mod StepLaws
pub mod AnswerLaws
pub mod RunLaws
-- Cells without a gap
pub mod GapLaws
pub mod CalmLaws
