pub mod Booleans
pub mod Offsets
pub mod Pins
pub mod Records
