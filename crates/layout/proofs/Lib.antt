-- Laws of the state's bytes.
mod Places
pub mod StateLaws
