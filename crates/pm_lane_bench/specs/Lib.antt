pub mod Lanes
pub mod Calls
