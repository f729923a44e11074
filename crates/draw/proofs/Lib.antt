-- The laws of the crate `draw`.
pub mod Checks
pub mod Refusals
pub mod Alike
pub mod Keeps
pub mod Parts
pub mod Image
