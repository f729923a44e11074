-- The definitions of the crate `cuts`.
pub mod Cuts
