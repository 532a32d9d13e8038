pub mod Building
pub mod Judging
pub mod Ordering
pub mod Parts
pub mod OneCluster
pub mod Leaving
