pub mod Arrival
pub mod Past
pub mod Process
