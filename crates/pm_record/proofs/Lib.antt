pub mod Applying
pub mod Writing
