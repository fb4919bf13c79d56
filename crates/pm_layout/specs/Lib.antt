pub mod Layout
pub mod Kinds
pub mod Sizes
pub mod Areas
pub mod Chunks
pub mod Texts
