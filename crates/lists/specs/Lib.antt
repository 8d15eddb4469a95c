pub mod Place
pub mod Filled
pub mod Table
pub mod Sum
pub mod Span
pub mod YesNo
