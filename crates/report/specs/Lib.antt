pub mod Row
pub mod Report
pub mod Claims
pub mod machine
