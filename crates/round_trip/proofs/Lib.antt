-- The round trip, and the laws that it rests on, from the bottom up.
mod FlagLaws
pub mod Frames
mod Unbroken
mod WholeFrame
mod States
mod ReadsTo
mod CommandStep
mod DataStep
mod Runs
pub mod RoundTrip
pub mod ReadBack
pub mod Traces
