pub mod LockLaws
pub mod FinderLaws
pub mod MarkLaws
pub mod FirstLockLaws
pub mod FillerLaws
pub mod StartLaws
pub mod ScanTurn
