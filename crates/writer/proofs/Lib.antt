-- The laws of the crate `writer`.
pub mod Answers
