-- The laws of the crate `replay_splines`.
pub mod Agreeing
