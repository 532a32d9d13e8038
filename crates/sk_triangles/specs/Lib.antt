pub mod Marks
pub mod Growing
pub mod Ends
pub mod Ranks
pub mod Walk
