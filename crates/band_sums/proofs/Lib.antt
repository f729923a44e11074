-- The laws of the crate `band_sums`.
pub mod Sums
