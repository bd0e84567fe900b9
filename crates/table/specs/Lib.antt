pub mod Format
pub mod Limits
pub mod Checking
pub mod Laws
pub mod Lexing
pub mod Filling
pub mod Drafting
