pub mod Fittings
pub mod Given
pub mod Naming
pub mod Soundness
pub mod Drawing
