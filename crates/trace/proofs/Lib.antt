pub mod Entries
pub mod Scanning
pub mod Ready
