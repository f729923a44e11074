-- The laws that the proofs of this crate, and of those over it, cite.
pub mod Zero
pub mod Powers
pub mod Order
pub mod Unique
pub mod Units
pub mod Shift
pub mod Near
pub mod Signs
pub mod Logs
