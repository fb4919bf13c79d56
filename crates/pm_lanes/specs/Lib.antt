pub mod Closed
pub mod Opens
pub mod Turns
