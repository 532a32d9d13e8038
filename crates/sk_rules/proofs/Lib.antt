pub mod Families
pub mod NormalForm
pub mod Merging
pub mod Takable
pub mod SummedWeights
pub mod Counting
pub mod WeighedGraphs
mod Weighings
pub mod Excesses
pub mod Keeping
pub mod KeptFamily
pub mod KeptClusters
pub mod LeastPairs
pub mod SettledRules
pub mod JustSome
pub mod Closing
pub mod SomeClosed
pub mod Beside
