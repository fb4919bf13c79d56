pub mod Spans
pub mod Records
pub mod Plans
pub mod Working
pub mod Undoing
pub mod Ranges
