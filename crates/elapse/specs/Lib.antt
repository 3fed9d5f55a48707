pub mod Elapsed
pub mod Bounds
