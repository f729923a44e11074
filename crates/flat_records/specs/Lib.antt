-- The definitions of the crate `flat_records`.
pub mod Records
