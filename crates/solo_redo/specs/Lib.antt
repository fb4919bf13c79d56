pub mod Sequences
pub mod Entering
