-- The definitions of the crate `polyline_read`.
pub mod Steps
