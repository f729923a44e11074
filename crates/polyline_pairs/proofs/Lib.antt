-- The laws of the crate `polyline_pairs`.
pub mod Numbers
