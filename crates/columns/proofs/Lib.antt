-- The laws of the crate `columns`.
pub mod Columns
