-- The laws of the crate `little`.
pub mod Little
