pub mod Outcomes
pub mod Carried
