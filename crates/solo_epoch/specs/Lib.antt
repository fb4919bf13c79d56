pub mod Epochs
pub mod Allocating
pub mod Reserving
pub mod GivingBack
