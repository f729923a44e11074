-- The laws of the crate `near`.
pub mod Settled
pub mod Ends
pub mod Near
pub mod Readings
