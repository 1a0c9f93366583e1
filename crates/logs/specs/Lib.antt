pub mod Logs
pub mod Convert
pub mod Laws
pub mod Steps
