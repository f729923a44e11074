-- The laws of the crate `strand`.
pub mod Strands
