pub mod StateLaws
pub mod RunLaws
pub mod Claims
pub mod Cases
