pub mod Cause
pub mod Report
pub mod Due
