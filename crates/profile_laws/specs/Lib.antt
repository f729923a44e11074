-- The definitions of the crate `profile_laws`.
pub mod Rules
pub mod Refusals
