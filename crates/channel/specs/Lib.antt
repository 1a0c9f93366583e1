pub mod Receiver
pub mod Channel
pub mod Steps
