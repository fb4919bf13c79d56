pub mod Outside
pub mod Faults
pub mod Plan
pub mod MapShelf
pub mod FailingShelf
pub mod FailingSink
pub mod FileShelf
pub mod OutputSink
