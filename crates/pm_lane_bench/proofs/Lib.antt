pub mod Fillings
pub mod Calls
pub mod Timed
pub mod CallLanes
