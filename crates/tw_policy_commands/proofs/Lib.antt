pub mod Texts
pub mod Assignments
