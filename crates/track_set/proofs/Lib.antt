pub mod HandedLaws
pub mod StoredLaws
pub mod TrackSetLaws
pub mod SetAnswerLaws
