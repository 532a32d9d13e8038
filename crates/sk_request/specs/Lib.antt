pub mod Asking
pub mod Commands
pub mod Grids
pub mod Settings
