pub mod Drawing
pub mod OwnGraph
pub mod WellParts
pub mod Sharing
pub mod OverParts
