-- What the proofs of several functions use.
pub mod Equal
pub mod Before
