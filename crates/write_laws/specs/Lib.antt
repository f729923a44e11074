-- The definitions of the crate `write_laws`.
pub mod Floats
pub mod Refusals
