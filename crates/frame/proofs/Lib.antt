-- The laws of the crate `frame`.
pub mod Laws
