-- The laws of the crate `trace2`.
pub mod Editions
pub mod Versions
