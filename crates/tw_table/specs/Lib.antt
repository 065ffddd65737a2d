pub mod Shares
pub mod Openings
pub mod Views
pub mod Seats
pub mod Moving
