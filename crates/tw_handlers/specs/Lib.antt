pub mod Record
pub mod Calls
pub mod Undo
pub mod Trail
