-- The laws of the crate `flat_records`.
pub mod Known
