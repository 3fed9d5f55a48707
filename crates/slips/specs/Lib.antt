pub mod Slip
pub mod Fit
pub mod Cases
