-- The definitions of the crate `write_judge`.
pub mod Judge
pub mod Verdict
