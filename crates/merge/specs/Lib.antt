pub mod Merge
pub mod Rule
pub mod Claims
pub mod machine
