-- The definitions of the crate `profile_rules`.
pub mod Checked
pub mod Rules
