pub mod AnyBoard
pub mod Board
pub mod Owners
pub mod Rows
pub mod Inside
pub mod Parcels
