-- The definitions of the crate `trace_laws`.
pub mod Behind
pub mod Refusals
pub mod Small
