pub mod Choices
pub mod Orders
pub mod Run
pub mod Known
pub mod Gather
pub mod Turns
pub mod Heirs
