pub mod Pace
pub mod machine
