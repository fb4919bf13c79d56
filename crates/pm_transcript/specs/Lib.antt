pub mod Files
pub mod HeaderSums
pub mod Lines
pub mod Pieces
