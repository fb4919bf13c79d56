pub mod Puts
pub mod Runs
pub mod Sizes
pub mod Sums
