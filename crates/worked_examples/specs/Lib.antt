pub mod Collections
pub mod Tables
pub mod Examples
