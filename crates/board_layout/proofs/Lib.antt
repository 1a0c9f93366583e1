-- Laws of the board's bytes.
mod Places
pub mod BoardLaws
