-- The laws of the crate `transform`.
pub mod Dots
