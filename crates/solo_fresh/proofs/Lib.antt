pub mod Inside
pub mod Reserving
pub mod Filled
pub mod Reservable
pub mod Persisting
pub mod Vacating
pub mod MakingRuns
pub mod MadeFinds
