pub mod CancelledLanes
pub mod Asking
pub mod OutsideLanes
pub mod Standing
pub mod PublicationLocks
pub mod PublicationCalls
pub mod Positions
