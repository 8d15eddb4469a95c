pub mod Order
pub mod Index
pub mod HandedBack
pub mod Claims
pub mod machine
