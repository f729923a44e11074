-- The laws of the crate `trace_parts`.
pub mod Parts
