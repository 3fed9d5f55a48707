pub mod Order
pub mod Alone
pub mod Apart
pub mod Holds
