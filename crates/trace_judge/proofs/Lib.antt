-- The laws of the crate `trace_judge`.
pub mod Faults
