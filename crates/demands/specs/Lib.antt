pub mod Demands
pub mod Request
pub mod History
pub mod Traces
