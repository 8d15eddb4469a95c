pub mod Words
pub mod machine
