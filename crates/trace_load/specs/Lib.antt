-- The definitions of the crate `trace_load`.
pub mod Steps
