pub mod Bits
pub mod Cells
pub mod Reading
pub mod Bytes
pub mod Strip
pub mod machine
