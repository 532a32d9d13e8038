pub mod Growing
pub mod PointNames
pub mod Soundness
