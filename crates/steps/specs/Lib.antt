pub mod Steps
pub mod Untold
pub mod Stretch
