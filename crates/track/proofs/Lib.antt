pub mod OrderLaws
pub mod InOrderLaws
pub mod FoundLaws
pub mod InsertionLaws
pub mod GatherLaws
