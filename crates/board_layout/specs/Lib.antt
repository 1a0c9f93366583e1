pub mod BoardBytes
pub mod Laws
