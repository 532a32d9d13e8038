pub mod Settling
pub mod Grown
