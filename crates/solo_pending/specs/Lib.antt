pub mod Pending
pub mod AllPending
