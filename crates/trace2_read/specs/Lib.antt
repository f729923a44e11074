-- The definitions of the crate `trace2_read`.
pub mod Steps
