-- The definitions of the crate `build_answer`.
pub mod BuildAnswer
pub mod Answer
