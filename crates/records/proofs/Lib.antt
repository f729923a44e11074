-- The laws of the crate `records`.
pub mod Fills
pub mod Alone
pub mod Numbers
