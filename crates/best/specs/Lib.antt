pub mod Best
pub mod machine
pub mod Claims
pub mod Equal
