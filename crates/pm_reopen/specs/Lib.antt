pub mod Plan
pub mod Running
pub mod Premise
pub mod Steps
pub mod Ends
