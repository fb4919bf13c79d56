pub mod ChunkBits
pub mod InZone
pub mod InZones
pub mod Resting
pub mod Searched
pub mod Tried
