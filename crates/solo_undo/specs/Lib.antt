pub mod Spans
pub mod Sequences
pub mod Working
