-- The laws of the crate `build_answer`.
pub mod Ends
