pub mod Counts
pub mod Finds
