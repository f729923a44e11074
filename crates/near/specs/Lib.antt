-- The definitions of the crate `near`.
pub mod Near
