pub mod Meaning
pub mod Tidy
pub mod Passage
pub mod Cases
