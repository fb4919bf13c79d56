pub mod Calls
pub mod Keep
pub mod Keeping
pub mod LockWords
pub mod Runs
pub mod Solo
pub mod Survivors
