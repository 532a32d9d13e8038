pub mod Outcomes
pub mod Sorting
mod Writing
mod Mentioning
mod Dropping
mod Inherited
pub mod Inheritance
mod Pushing
mod Handing
mod Adding
