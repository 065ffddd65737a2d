pub mod Board
pub mod Place
pub mod Rule
pub mod Moving
pub mod Cut
