-- The laws of the crate `rows`.
pub use Rattle.placing.proofs.Counts
pub mod Marks
pub mod Table
pub mod Users
