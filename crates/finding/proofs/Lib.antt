-- The proofs of the crate `finding`.
pub mod Passed
pub mod Sameness
