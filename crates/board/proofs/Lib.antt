-- What the proofs of several functions use, and the laws of the board.
mod Only
mod InSteps
mod Mapped
pub mod Asked
pub mod BoardLaws
pub mod Traces
