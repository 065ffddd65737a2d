pub mod Places
pub mod Moves
pub mod Visits
pub mod Commits
pub mod Awaited
