-- The definitions of the crate `touch`.
pub mod Touch
pub mod Laws
