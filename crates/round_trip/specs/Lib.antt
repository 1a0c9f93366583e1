pub mod Frames
pub mod RoundTrip
pub mod ReadBack
pub mod Traces
