pub mod AnyBlocks
pub mod Giving
pub mod NewRuns
pub mod Tests
pub mod SmallBlocks
