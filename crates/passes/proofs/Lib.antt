pub mod BlockLaws
pub mod LaneLaws
pub mod ScanLaws
pub mod LookLaws
