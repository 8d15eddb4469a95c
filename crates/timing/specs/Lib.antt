pub mod Numbers
pub mod Profile
pub mod Class
pub mod EqualPairs
pub mod machine
