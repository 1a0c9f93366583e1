-- What the proofs of several functions use.
pub mod Width
pub mod Turns
pub mod Others
pub mod Ahead
pub mod Folds
pub mod Shift
pub mod HeadLaws
pub mod Put
