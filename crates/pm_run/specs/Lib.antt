pub mod Fates
pub mod Runs
pub mod Jobs
pub mod NewLanes
