pub mod BoardSession
