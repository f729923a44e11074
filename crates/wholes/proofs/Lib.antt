-- The laws that the proofs of this crate, and of those over it, cite.
pub mod Wholes
pub mod Steps
pub mod Rounds
pub mod Quotients
