pub mod Masks
pub mod Sums
pub mod Words
