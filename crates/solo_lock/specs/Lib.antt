pub mod Leading
pub mod Resting
pub mod Begun
pub mod Plans
pub mod Lacking
pub mod Locking
pub mod Finding
pub mod Tests
