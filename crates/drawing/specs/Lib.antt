-- The definitions of the crate `drawing`.
pub mod Thickness
