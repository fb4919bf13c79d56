pub mod Pool
pub mod Refusals
pub mod Texts
