-- The laws of the crate `read_splines`.
pub mod Splines
