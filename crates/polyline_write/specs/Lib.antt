-- The definitions of the crate `polyline_write`.
pub mod Steps
