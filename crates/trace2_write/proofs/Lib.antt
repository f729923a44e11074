-- The laws of the crate `trace2_write`.
pub mod Seconds
