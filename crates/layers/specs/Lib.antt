-- The definitions of the crate `layers`.
pub mod Exported
