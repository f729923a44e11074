-- The definitions of the crate `aktyrbuz`.
pub mod Exported
pub mod Calls
pub mod Demands
pub mod Requests
pub mod ListCodes
pub mod TraceCalls
pub mod ProfileExported
pub mod ProfileCalls
pub mod Trace2Calls
pub mod Trace2Exported
pub mod Polylines
pub mod MakersExported
pub mod MakersCalls
pub mod PolylineCalls
pub mod BandsExported
pub mod BandsCalls
