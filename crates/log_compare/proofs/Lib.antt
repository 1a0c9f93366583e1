-- What the proofs of several functions use, and what is proved beside the contracts.
mod Held
mod Moved
mod Lents
mod Sides
mod Cases
pub mod Differing
pub mod Scans
pub mod Lists
pub mod Comparison
pub mod Progress
pub mod Loop
