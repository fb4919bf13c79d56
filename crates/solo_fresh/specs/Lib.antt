pub mod Filling
pub mod Filled
pub mod Making
pub mod Made
