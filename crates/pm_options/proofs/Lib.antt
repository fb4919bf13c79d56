pub mod Apps
pub mod Commands
pub mod Usages
