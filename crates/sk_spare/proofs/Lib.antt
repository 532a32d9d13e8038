pub mod Graphs
pub mod Lighter
pub mod LeavingOut
pub mod Holding
pub mod PutBack
pub mod Deciding
pub mod Budget
pub mod Segments
