-- The laws of the crate `replay_build`.
pub mod Building
