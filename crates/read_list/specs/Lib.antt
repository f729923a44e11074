-- The definitions of the crate `read_list`.
pub mod Answer
pub mod Rest
