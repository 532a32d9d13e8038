pub mod First
pub mod Tolerances
pub mod BlockTurns
pub mod Turns
pub mod Offs
pub mod Telling
