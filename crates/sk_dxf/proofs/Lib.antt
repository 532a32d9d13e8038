pub mod Meanings
pub mod Products
pub mod Reaches
