-- The laws of the crate `trace2_read`.
pub mod Seconds
