-- The laws of the crate `checks`.
pub mod Entries
pub mod Checks
pub mod Refusals
pub mod Alike
