-- The laws of the crate `faint`.
pub mod Counts
