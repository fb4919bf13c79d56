pub mod Faults
pub mod Name
pub mod Pairs
pub mod Spelling
pub mod Texts
