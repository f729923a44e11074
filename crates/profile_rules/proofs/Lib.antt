-- The laws of the crate `profile_rules`.
pub mod Rules
