pub mod Commands
pub mod Board
pub mod Laws
pub mod Traces
pub mod Steps
