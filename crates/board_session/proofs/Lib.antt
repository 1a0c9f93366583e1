-- The commands in joined records, and the whole way from a laptop to a coil.
mod Records
pub mod BoardSession
