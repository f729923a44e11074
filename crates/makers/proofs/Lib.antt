-- The laws of the crate `makers`.
pub mod Rows
pub mod Short
