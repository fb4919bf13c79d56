pub mod LineSets
pub mod CallLists
pub mod EachEntry
