-- What other crates use.
pub mod FrameBack
pub mod Sizes
