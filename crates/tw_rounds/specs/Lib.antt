pub mod Alone
pub mod Members
pub mod Ruled
pub mod Shares
pub mod Times
pub mod Warp
pub mod Turns
