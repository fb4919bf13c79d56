pub mod Rows
pub mod Searched
pub mod TriedBlocks
pub mod SearchedRuns
pub mod SearchedPools
pub mod GivenBack
pub mod Resting
