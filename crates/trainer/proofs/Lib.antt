pub mod Training
pub mod Held
pub mod Window
