pub mod ItemLaws
pub mod LaneLaws
pub mod CheckLaws
pub mod WrittenLaws
pub mod RunLaws
pub mod CheckFacts
pub mod RuleLaws
