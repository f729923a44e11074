-- The definitions of the crate `profile`.
pub mod Answers
pub mod Profile
