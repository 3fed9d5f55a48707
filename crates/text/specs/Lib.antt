pub mod Budget
pub mod Pieces
