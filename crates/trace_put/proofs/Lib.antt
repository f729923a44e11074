-- The laws of the crate `trace_put`.
pub mod Puts
