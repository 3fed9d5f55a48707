pub mod Brief
pub mod Told
pub mod Step
