-- The laws of the crate `verdict`.
pub mod Checks
