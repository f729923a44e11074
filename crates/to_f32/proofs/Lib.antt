-- The laws that the proofs of this crate, and of those over it, cite.
pub mod Pattern
pub mod Narrowing
pub mod Signed
