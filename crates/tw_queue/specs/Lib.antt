pub mod InTable
pub mod Table
pub mod Least
pub mod ByRouter
pub mod Pending
pub mod Times
pub mod Far
pub mod BucketQueue
