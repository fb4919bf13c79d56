pub mod Reclaims
pub mod Tests
pub mod KnownTaken
pub mod KeptBlocks
