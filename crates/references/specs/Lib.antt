pub mod Coding
pub mod Reference
pub mod Cases
