pub mod Log
pub mod Farms
pub mod Lines
pub mod Claims
pub mod Tally
pub mod Cases
