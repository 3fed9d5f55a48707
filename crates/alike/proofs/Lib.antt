pub mod Unseen
pub mod Waits
pub mod Meant
pub mod Replays
pub mod Beside
pub mod Alike
pub mod Fresh
pub mod Tidied
