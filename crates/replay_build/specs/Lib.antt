-- The definitions of the crate `replay_build`.
pub mod Built
