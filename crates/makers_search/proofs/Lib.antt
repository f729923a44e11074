-- The laws of the crate `makers_search`.
pub mod Sums
pub mod Answers
