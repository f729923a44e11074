-- The laws of the crate `trace`.
pub mod Checks
pub mod Starts
