-- The definitions of the crate `trace2_laws`.
pub mod Refusals
