pub mod Calls
pub mod Rooms
pub mod LaneRooms
