-- The definitions of the crate `polyline_scan`.
pub mod Turned
pub mod Steps
