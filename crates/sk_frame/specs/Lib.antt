pub mod Bases
pub mod Turns
pub mod TurnBounds
pub mod Crossings
pub mod Frames
pub mod FrameMotions
