pub mod Changes
pub mod Commands
pub mod Edits
pub mod Making
