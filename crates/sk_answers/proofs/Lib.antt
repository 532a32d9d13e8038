pub mod Answering
pub mod Behind
pub mod MeasureTold
pub mod OffLines
