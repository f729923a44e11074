-- The definitions of the crate `joins`.
pub mod Joins
