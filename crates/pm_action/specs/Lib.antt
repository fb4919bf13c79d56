pub mod Inside
pub mod Actions
pub mod Outside
pub mod Calls
pub mod Publications
pub mod Standing
pub mod Positions
