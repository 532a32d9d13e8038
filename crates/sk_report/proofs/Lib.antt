pub mod Appending
pub mod PartLines
