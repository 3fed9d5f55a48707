pub mod Record
pub mod Fields
pub mod Shape
pub mod Cases
