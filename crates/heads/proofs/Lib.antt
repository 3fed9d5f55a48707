pub mod Standing
pub mod Seeking
pub mod Turning
pub mod Round
pub mod Testing
pub mod Begun
