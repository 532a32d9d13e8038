pub mod Around
pub mod Interval
pub mod Nesting
pub mod Operations
pub mod Rounding
