pub mod BitInfo
pub mod Candidates
pub mod FirstByte
pub mod Ranges
pub mod SecondByte
pub mod Told
pub mod Unread
