-- The definitions of the crate `hull`.
pub mod ReachAnswer
pub mod Reach
pub mod Refusals
