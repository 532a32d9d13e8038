pub mod Sparse
pub mod Runs
pub mod Leaves
pub mod Judged
pub mod ConstraintStarts
pub mod PlanBy
pub mod MadeBy
