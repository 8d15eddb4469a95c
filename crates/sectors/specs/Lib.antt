pub mod Sector
pub mod Claims
