pub mod Chunks
pub mod Pushed
pub mod Words
