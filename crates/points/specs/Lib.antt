-- The definitions of the crate `points`.
pub mod Filled
pub mod Points
