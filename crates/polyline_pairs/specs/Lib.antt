-- The definitions of the crate `polyline_pairs`.
pub mod Fits
