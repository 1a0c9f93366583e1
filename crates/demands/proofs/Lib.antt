-- The demands, and the laws that they rest on, from the bottom up.
pub mod Demand3
pub mod PlaceLaws
pub mod SeenLaws
pub mod Refusal
pub mod Written
pub mod CountLaws
pub mod HistoryLaws
pub mod CutLaws
pub mod ActiveLaws
pub mod Drain
pub mod Demand2
pub mod Traces
