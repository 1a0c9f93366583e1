-- The calls' answers, what refusals leave, whole sessions, and a command's parts; the same of the board's calls.
mod CallLaws
mod BoardCalls
mod SendCalls
pub mod Refusals
pub mod Sessions
pub mod PartLaws
pub mod BoardLaws
