-- The laws of the crate `polyline_spline`.
pub mod Goes
pub mod Puts
pub mod One
