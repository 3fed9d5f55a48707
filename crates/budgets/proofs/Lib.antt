pub mod Went
pub mod Kept
pub mod Verdicts
pub mod Claimed
pub mod Recording
pub mod Nines
