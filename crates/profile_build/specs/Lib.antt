-- The definitions of the crate `profile_build`.
pub mod Building
