pub mod OwnSketch
