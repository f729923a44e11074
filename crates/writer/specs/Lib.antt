-- The definitions of the crate `writer`.
pub mod Write
pub mod WriteAnswer
