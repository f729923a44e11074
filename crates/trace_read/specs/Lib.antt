-- The definitions of the crate `trace_read`.
pub mod Steps
