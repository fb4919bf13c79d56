pub mod Chunks
pub mod Looking
pub mod Tests
