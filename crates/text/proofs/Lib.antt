-- What the proofs of several functions, and of the programs that put text, use.
pub mod Texts
pub mod Digits
