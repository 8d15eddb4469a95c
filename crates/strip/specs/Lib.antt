pub mod Output
pub mod Program
pub mod machine
