-- The laws of the crate `codes`.
pub mod Codes
pub mod Decides
pub mod Refusals
