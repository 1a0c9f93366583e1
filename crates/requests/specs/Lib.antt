pub mod Phases
pub mod Slots
