pub mod Releases
pub mod Foretold
pub mod Printed
