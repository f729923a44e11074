-- The definitions of the crate `strand_at`.
pub mod Strands
