-- The definitions of the crate `list`.
pub mod List
pub mod Steps
