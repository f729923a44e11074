-- The laws of the crate `polyline_scan`.
pub mod Turns
