-- The definitions of the crate `columns`.
pub mod Columns
