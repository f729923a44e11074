-- The laws of the crate `polyline_form`.
pub mod Bytes
