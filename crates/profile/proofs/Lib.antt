-- The laws of the crate `profile`.
pub mod Rules
