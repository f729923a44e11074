-- The definitions of the crate `little`.
pub mod Little
