-- The definitions of the crate `desks`.
pub mod Desks
pub mod Agree
pub mod HideAnswer
pub mod Hide
