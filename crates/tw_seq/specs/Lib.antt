pub mod Turn
pub mod Run
pub mod Outcome
pub mod Thread
pub mod Logged
pub mod Traced
