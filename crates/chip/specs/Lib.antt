pub mod State
pub mod Scalars
pub mod Ports
pub mod Memory
pub mod Reset
pub mod Interrupts
pub mod Modes
