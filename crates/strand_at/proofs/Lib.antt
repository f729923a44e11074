-- The laws of the crate `strand_at`.
pub mod Starts
