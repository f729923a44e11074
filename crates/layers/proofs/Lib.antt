-- The laws of the crate `layers`.
pub mod Turned
