pub mod Runnable
pub mod Pages
pub mod Ends
