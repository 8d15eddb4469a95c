pub mod State
pub mod Sides
pub mod Faults
pub mod Rules
pub mod Runs
pub mod Claims
