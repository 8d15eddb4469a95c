pub mod Page
pub mod Reading
pub mod Making
pub mod Claims
pub mod machine
