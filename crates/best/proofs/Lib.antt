pub mod TrialLaws
pub mod MarginLaws
pub mod RuleLaws
pub mod RoomLaws
pub mod BestLaws
pub mod GivenLaws
pub mod EqualLaws
pub mod Cases
