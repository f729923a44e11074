-- The laws of the crate `eights`.
pub mod Feeding
