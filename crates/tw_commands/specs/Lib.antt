pub mod Output
pub mod ForCase
pub mod Cause
pub mod Check
pub mod Seq
pub mod Trail
pub mod Replay
pub mod Upgrade
