-- The definitions of the crate `shade`.
pub mod Alike
pub mod Edit
pub mod Shade
