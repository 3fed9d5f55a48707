pub mod Steps
pub mod Idle
pub mod Telling
