pub mod Line
pub mod Input
pub mod machine
