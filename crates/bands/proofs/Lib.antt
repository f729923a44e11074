-- The laws of the crate `bands`.
pub mod Whole
