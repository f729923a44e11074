-- The laws that the proofs of this crate, and of those over it, cite.
pub mod Roots
pub mod RootOf
pub mod Laid
pub mod Placed
pub mod RootBy
pub mod RootOfWhole
