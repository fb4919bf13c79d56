pub mod Finding
pub mod Flushing
pub mod Forming
pub mod SameLane
pub mod Sequences
