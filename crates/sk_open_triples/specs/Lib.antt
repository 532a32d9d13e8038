pub mod MergeOrder
pub mod Avoiding
pub mod Inherited
pub mod OpenRows
pub mod HandedOn
