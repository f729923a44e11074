-- The laws of the crate `trace_load`.
pub mod Loads
