pub mod XorLaws
pub mod LinearLaws
pub mod RegisterLaws
pub mod FormulaLaws
pub mod EightLaws
