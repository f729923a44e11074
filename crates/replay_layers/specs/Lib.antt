-- The definitions of the crate `replay_layers`.
pub mod Agreed
