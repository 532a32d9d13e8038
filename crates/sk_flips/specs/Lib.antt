pub mod Flipping
pub mod FlipLines
pub mod FlipReading
