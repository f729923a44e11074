-- The laws of the crate `trace_read`.
pub mod Loads
