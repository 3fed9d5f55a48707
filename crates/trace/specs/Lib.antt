pub mod Trace
pub mod Pass
pub mod Cases
