pub mod Recovery
pub mod Answers
pub mod Steps
pub mod Texts
