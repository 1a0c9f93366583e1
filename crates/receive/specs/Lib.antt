pub mod Nearer
pub mod Words
