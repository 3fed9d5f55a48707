pub mod Slips
pub mod Theorems
