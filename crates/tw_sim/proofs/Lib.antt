pub mod Ordered
pub mod Counts
pub mod Members
pub mod Seq
pub mod Rising
pub mod Least
pub mod Unique
pub mod Closed
