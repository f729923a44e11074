-- The definitions of the crate `trace_put`.
pub mod Steps
