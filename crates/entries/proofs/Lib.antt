pub mod FieldLaws
pub mod OpeningLaws
pub mod SoundLaws
pub mod IdLaws
pub mod SearchLaws
pub mod StepLaws
pub mod GoesLaws
