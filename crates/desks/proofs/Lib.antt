-- The laws of the crate `desks`.
pub mod Bits
pub mod Shown
pub mod Hiding
