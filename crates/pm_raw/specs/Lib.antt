pub mod Line
pub mod LentLine
