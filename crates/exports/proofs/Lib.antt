-- The laws of the crate `exports`.
pub mod Lending
pub mod Exports
pub mod TraceExports
pub mod DeskExports
pub mod ProfileExports
pub mod Trace2Exports
pub mod MakersExports
pub mod PolylineExports
pub mod BandsExports
