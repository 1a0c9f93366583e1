pub mod Loose
pub mod Scan
pub mod Skip
