-- The definitions of the crate `frame`.
pub mod Frame
