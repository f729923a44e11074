-- The definitions of the crate `makers`.
pub mod CheckAnswer
pub mod Check
pub mod Steps
pub mod Refusals
