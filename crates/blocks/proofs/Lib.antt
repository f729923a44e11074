-- The laws of the crate `blocks`.
pub mod Blocks
