pub mod Heads
pub mod Call
pub mod Tested
pub mod Turning
pub mod Cases
