pub mod Orders
pub mod Entries
pub mod Lists
pub mod Lent
pub mod Law
pub mod Lexical
