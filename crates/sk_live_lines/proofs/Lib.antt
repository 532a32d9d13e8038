pub mod Hearings
pub mod InTimes
pub mod Rooms
pub mod TurnEnds
