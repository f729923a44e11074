-- The definitions of the crate `ieee754`.
pub mod Ieee754
