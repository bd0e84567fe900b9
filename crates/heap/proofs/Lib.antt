pub mod Begins
pub mod Small
