-- The laws of the crate `trace2_judge`.
pub mod Laid
