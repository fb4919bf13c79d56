pub mod Root
pub mod Standing
