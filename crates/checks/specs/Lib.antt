-- The definitions of the crate `checks`.
pub mod Tables
pub mod Verdict
pub mod Checks
pub mod Refusals
pub mod Alike
