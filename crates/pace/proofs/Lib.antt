pub mod CutLaws
pub mod DifferenceLaws
