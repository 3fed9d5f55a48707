pub mod Records
pub mod Farming
pub mod Counting
pub mod Answer
pub mod Theorems
pub mod Laws
pub mod Bounds
