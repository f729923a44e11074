-- The laws of the crate `reader`.
pub mod Whole
pub mod Refusals
pub mod Promises
