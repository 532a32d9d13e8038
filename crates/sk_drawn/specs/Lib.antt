pub mod DrawnValues
pub mod Firmness
