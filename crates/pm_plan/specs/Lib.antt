pub mod Plans
pub mod Notes
