pub mod Parts
pub mod Frames
pub mod Send
pub mod Steps
