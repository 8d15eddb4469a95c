pub mod Sides
pub mod Limits
pub mod machine
