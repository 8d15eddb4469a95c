pub mod OutputLaws
pub mod ProgramLaws
