pub mod Sparing
pub mod SpareReport
pub mod Trying
pub mod Halving
pub mod Numbers
