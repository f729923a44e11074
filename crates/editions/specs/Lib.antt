-- The definitions of the crate `editions`.
pub mod Editions
