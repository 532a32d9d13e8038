pub mod Products
pub mod Papers
