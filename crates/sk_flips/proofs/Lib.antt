pub mod FewFlips
pub mod FlippedPlans
pub mod FlipsSoFar
pub mod StepWords
