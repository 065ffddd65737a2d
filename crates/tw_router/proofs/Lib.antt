pub mod Nodes
pub mod Opening
pub mod Places
pub mod Ranking
pub mod Greatest
pub mod Offered
