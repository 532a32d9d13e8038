pub mod DatumSketch
