-- The definitions of the crate `pixels`.
pub mod Pixels
