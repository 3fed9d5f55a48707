pub mod Verdicts
pub mod Judged
