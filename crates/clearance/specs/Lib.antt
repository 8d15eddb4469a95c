pub mod Clearance
pub mod Answers
pub mod Claims
pub mod machine
