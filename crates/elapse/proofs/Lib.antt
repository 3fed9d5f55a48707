pub mod Made
pub mod Elapsing
