pub mod Trees
pub mod Meeting
pub mod LegalPlan
pub mod PlanTree
pub mod ByNumber
pub mod DrawnChoice
pub mod LastName
