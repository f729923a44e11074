-- The laws of the crate `cuts`.
pub mod Cuts
