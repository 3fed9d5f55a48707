pub mod Bills
pub mod Theorems
