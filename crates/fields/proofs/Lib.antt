-- The laws of fields, and of loops over them.
pub mod FieldLaws
pub mod Local
pub mod Loops
pub mod Places
pub mod Rows
