pub mod Holding
pub mod Putting
pub mod Removing
pub mod Walking
pub mod HoldersBelow
pub mod Representing
mod Sharing
pub mod Least
mod Walked
mod AtCorners
pub mod Gathered
pub mod OneMerge
mod Middle
