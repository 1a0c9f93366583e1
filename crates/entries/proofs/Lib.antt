-- What the proofs of several functions use.
pub mod Bools
pub mod Walk
pub mod Folds
pub mod Shift
