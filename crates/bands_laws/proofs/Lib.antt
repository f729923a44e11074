-- The laws of the crate `bands_laws`.
pub mod Cells
pub mod Rows
pub mod Refusals
pub mod Numbers
pub mod Fresh
pub mod Alike
pub mod Hiding
