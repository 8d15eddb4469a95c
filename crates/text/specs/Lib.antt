pub mod Ascii
pub mod Pieces
pub mod Decimal
pub mod Hex
pub mod Line
pub mod Claims
