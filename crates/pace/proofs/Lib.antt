pub mod Cycles
pub mod Pace
