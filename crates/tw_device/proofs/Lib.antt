pub mod Input
pub mod Puts
pub mod Taking
