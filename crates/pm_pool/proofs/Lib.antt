pub mod RootBlock
pub mod Whole
