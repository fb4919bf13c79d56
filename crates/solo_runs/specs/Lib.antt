pub mod Runs
pub mod Looking
pub mod Tests
