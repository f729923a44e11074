-- The definitions of the crate `polyline_spline`.
pub mod Begun
pub mod Put
pub mod Steps
