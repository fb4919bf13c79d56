pub mod AllRefused
pub mod AreReserved
