pub mod NewObjects
pub mod Tests
