pub mod Set
pub mod Held
pub mod Alone
pub mod Claims
pub mod machine
