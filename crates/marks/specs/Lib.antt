pub mod Order
pub mod Lines
pub mod Cases
