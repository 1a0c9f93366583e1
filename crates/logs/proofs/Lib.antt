-- What the proofs of several functions use, and what is proved of logs beside the contracts.
pub mod Walk
mod Wider
pub mod Joined
pub mod Alike
pub mod Pieces
