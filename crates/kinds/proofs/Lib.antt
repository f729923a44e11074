-- The laws that the proofs of this crate, and of those over it, cite.
pub mod OneKind
pub mod ByKind
pub mod RoundedKind
