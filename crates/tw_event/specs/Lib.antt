pub mod Order
pub mod Rank
