pub mod ExpressionLemmas
pub mod KindLemmas
pub mod LeafLemmas
pub mod MotionLemmas
pub mod NestingLemmas
pub mod SoundMeasures
