pub mod Logbook
pub mod Cases
