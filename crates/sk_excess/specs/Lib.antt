pub mod LeftOut
pub mod Going
pub mod Thinning
pub mod KeptSketch
