pub mod DrawnSigns
pub mod PlacedSigns
pub mod Vectors
