-- The laws of the crate `joins`.
pub mod Joins
