-- The definitions of the crate `strand`.
pub mod Strand
