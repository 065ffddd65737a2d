pub mod Held
pub mod SenderTable
pub mod HeldSends
