pub mod Item
pub mod Written
pub mod Rule
pub mod machine
