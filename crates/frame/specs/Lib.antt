pub mod Limits
pub mod Header
pub mod Frame
pub mod Settings
pub mod Records
pub mod Laws
