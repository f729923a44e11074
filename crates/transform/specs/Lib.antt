-- The definitions of the crate `transform`.
pub mod Transform
