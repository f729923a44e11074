-- The definitions of the crate `makers_laws`.
pub mod Cut
