-- The laws of the crate `curve`.
pub mod Wholes
pub mod Paths
pub mod Turning
pub mod Answers
