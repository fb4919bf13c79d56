pub mod Entries
pub mod Plans
pub mod Stages
pub mod Calls
