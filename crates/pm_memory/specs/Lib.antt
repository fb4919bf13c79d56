pub mod Calls
pub mod Changes
pub mod Keep
pub mod Keeping
pub mod Runs
pub mod Solo
pub mod Survivors
pub mod SoloCalls
