pub mod Lock
pub mod Claims
pub mod machine
