pub mod BufferLaws
pub mod FieldLaws
pub mod ByteLaws
pub mod LineLaws
pub mod InputLaws
pub mod NumberLaws
pub mod ScriptLaws
