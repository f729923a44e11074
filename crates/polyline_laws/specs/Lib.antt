-- The definitions of the crate `polyline_laws`.
pub mod Begins
pub mod Says
pub mod Refusals
