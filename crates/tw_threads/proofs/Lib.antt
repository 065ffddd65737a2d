pub mod Starts
pub mod Joins
pub mod Ends
