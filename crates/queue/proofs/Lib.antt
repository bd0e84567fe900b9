pub mod Places
pub mod Arranged
pub mod Batches
