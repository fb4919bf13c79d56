pub mod CallByCall
pub mod CallsOfLines
pub mod FirstCall
pub mod LinesBeyond
pub mod Roots
pub mod WholeCalls
