-- The definitions of the crate `trace_judge`.
pub mod Counted
