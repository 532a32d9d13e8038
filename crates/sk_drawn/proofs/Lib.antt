pub mod Roots
pub mod Ratios
pub mod Fractions
pub mod OneValue
pub mod DrawnRules
pub mod Drawing
