-- The definitions of the crate `finding`.
pub mod Finding
