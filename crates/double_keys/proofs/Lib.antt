-- What the proofs of several functions use.
pub mod RowLaws
pub mod KeyLists
mod Halves
mod Marks
mod Sorted
mod Shared
mod BlockLaws
