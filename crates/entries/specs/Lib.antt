pub mod FieldKinds
pub mod Entries
pub mod Claims
pub mod machine
