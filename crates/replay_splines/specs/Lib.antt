-- The definitions of the crate `replay_splines`.
pub mod Splines
