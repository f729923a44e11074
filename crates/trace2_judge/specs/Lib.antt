-- The definitions of the crate `trace2_judge`.
pub mod Steps
