pub mod Weights
pub mod Begun
pub mod Rings
pub mod Completions
pub mod CompletionText
