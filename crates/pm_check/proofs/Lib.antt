pub mod PageFaults
pub mod Verdicts
