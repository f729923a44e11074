-- The laws of the crate `replay_layers`.
pub mod Agreeing
