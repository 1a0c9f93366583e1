-- What the proofs of several functions use.
pub mod PhaseLaws
pub mod Search
pub mod UsedLaws
