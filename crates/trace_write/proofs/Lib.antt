-- The laws of the crate `trace_write`.
pub mod Puts
