pub mod Registers
pub mod Addresses
