pub mod Meeting
pub mod Work
pub mod Seated
pub mod Inside
