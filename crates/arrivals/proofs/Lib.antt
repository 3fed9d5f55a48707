pub mod Copying
pub mod Arriving
