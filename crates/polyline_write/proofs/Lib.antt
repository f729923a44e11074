-- The laws of the crate `polyline_write`.
pub mod Answers
