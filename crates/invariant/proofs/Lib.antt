pub mod Arrived
pub mod Writes
pub mod Effects
pub mod Ruling
pub mod Timed
pub mod Stepping
pub mod Images
pub mod Unread
