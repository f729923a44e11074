-- The definitions of the crate `trace2_write`.
pub mod Steps
