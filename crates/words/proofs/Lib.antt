pub mod TableLaws
pub mod SpreadLaws
