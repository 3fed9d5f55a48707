pub mod Access
pub mod Digits
