pub mod Plans
pub mod Flushing
pub mod Persisting
pub mod Dropping
pub mod Going
pub mod Notes
pub mod AreaParts
pub mod Finding
