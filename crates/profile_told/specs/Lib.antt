-- The definitions of the crate `profile_told`.
pub mod Answers
pub mod Told
