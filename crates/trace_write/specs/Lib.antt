-- The definitions of the crate `trace_write`.
pub mod Steps
