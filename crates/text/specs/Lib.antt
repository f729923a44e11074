-- The definitions of the crate `text`.
pub mod Text
