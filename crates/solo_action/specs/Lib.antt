pub mod Outside
pub mod Holding
pub mod Publishing
pub mod PublishingAll
pub mod Canceling
pub mod BegunAlone
pub mod Filling
pub mod Reserving
