pub mod Entries
pub mod Partial
pub mod Scan
pub mod Steps
pub mod Places
pub mod Laws
pub mod Breaks
