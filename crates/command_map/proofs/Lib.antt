-- What the proofs of several functions use.
mod Answers
pub mod Judgement
mod Crowded
