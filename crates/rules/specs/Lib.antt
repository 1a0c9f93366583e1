pub mod Rules
pub mod Stages
