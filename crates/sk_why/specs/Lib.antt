pub mod Because
pub mod BranchOf
pub mod KeptOf
pub mod Needed
pub mod OverParts
pub mod StartOf
pub mod WhyLines
pub mod WhyReport
