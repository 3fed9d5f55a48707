pub mod Rules
pub mod Phases
