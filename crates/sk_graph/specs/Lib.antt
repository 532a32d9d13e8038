pub mod Naming
pub mod SketchGraph
