-- The laws of the crate `trace_fit`.
pub mod Fits
