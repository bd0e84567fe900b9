pub mod Demand
pub mod Ranks
pub mod Search
pub mod Admission
pub mod Sound
pub mod Planned
pub mod Admitted
