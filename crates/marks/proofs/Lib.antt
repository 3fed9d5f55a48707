pub mod Trimming
pub mod Passing
