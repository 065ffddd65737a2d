pub mod InOrder
pub mod Queue
pub mod Buckets
pub mod Times
