pub mod Alone
pub mod Meetings
pub mod Rows
pub mod Ways
