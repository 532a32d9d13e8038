pub mod Growing
mod Between
pub mod Fronts
mod Found
mod Walking
