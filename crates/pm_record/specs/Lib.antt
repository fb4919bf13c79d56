pub mod Redo
pub mod Undo
