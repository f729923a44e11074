-- The definitions of the crate `band_sums`.
pub mod Numbers
pub mod Summed
pub mod Steps
