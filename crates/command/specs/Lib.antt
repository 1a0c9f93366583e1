pub mod Command
pub mod Lookup
pub mod Laws
pub mod Traces
