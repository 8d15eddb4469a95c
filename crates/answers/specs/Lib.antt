pub mod Answers
pub mod Reports
pub mod Slow
pub mod Cards
pub mod Windows
