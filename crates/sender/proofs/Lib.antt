-- What the proofs of several functions use.
pub mod PartLaws
pub mod CommandLaws
pub mod FrameLaws
pub mod MessageLaws
pub mod SendLaws
