-- The laws of the crate `write_judge`.
pub mod Checks
pub mod Starts
