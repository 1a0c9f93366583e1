-- What the proofs of several functions use.
mod Cases
pub mod Empty
pub mod Missing
pub mod Marks
pub mod Traces
