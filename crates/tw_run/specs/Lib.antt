pub mod Asked
pub mod Dealing
pub mod Ran
pub mod Stopped
pub mod Threaded
