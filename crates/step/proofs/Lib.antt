pub mod Telling
pub mod Settling
pub mod Briefly
