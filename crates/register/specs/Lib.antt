pub mod Register
pub mod machine
