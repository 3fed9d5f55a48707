pub mod Claim
pub mod UnderNine
