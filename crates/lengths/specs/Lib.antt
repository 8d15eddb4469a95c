pub mod Lengths
pub mod Points
pub mod Neighbours
pub mod Stream
pub mod Units
pub mod Margin
pub mod Claims
