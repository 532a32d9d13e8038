pub mod Body
pub mod Clusters
pub mod Sharing
pub mod Starting
pub mod Starts
pub mod Joining
pub mod Rules
pub mod Merges
