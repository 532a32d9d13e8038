pub mod Placements
pub mod Alternatives
pub mod Anchors
