pub mod Bits
pub mod Patching
pub mod Reading
pub mod Running
