pub mod Digits
pub mod Answer
pub mod Said
pub mod Taken
