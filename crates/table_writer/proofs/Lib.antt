pub mod Pens
pub mod Clips
pub mod Writes
