-- The laws of the crate `points`.
pub mod Adding
