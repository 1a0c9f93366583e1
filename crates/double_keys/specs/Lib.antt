pub mod DoubleKeys
pub mod Row
pub mod Search
pub mod Walk
pub mod Entries
pub mod Rows
pub mod Blocks
