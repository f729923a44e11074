-- The laws of the crate `read_list`.
pub mod Whole
pub mod Answers
