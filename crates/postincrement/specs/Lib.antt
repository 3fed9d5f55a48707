pub mod Postincrement
pub mod Pairs
