pub mod RightSteps
pub mod AsClaimed
pub mod Failing
pub mod Stepping
pub mod Texts
