pub mod CommandMap
pub mod Walk
