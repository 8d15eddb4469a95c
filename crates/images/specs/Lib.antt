pub mod Image
pub mod Rules
pub mod Distances
pub mod Claims
pub mod machine
