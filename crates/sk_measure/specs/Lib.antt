pub mod Least
pub mod Offsets
pub mod WithSign
pub mod Holding
pub mod Placing
pub mod Items
