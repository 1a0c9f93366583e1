pub mod Lines
pub mod Sizes
pub mod Turns
