-- The laws over every receiver.
pub mod Laws
pub mod Counts
pub mod Demand3
pub mod Simulation
pub mod Pieces
