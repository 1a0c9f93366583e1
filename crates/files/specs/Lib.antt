pub mod Laws
pub mod Reasons
pub mod Words
