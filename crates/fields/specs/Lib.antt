pub mod Field
pub mod FieldRule
pub mod Bytes
pub mod Claims
pub mod machine
