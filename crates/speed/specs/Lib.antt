pub mod Speed
pub mod Reading
pub mod Claims
pub mod machine
