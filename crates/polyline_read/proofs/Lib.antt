-- The laws of the crate `polyline_read`.
pub mod Answers
