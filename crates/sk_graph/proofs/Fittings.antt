-- What shapes a rule names, from what stands in a sound sketch.
use Rattle.std.proofs.Common.{◌≡◌, inl, inr, true, false, refl}
use Rattle.std.specs.Prelude.{Option, Some, None, IsSome}
use Rattle.sk_base.specs.declared.sketch.Shape.{Shape}
use Rattle.sk_base.specs.declared.sketch.Shape.TheVariants.{Point, Line, Circle}
use Rattle.sk_base.specs.declared.numbered.Elem.{Elem}
use Rattle.sk_base.specs.declared.sketch.Sketch.{Sketch}
use Rattle.sk_base.specs.Drawn.{shape_of, HasCentre, IsLine, is_line}
use Rattle.sk_base.specs.SoundSketch.{MayBeApart, MayBeTangent, MayJoin, BothFit}
use Rattle.sk_graph.specs.SketchGraph.{drawn_as}

pub line_if : (x : Shape) → is_line x ≡ true → IsLine x
line_if (Point x y) is = cc
line_if (Line x1 y1 x2 y2) is = tt
line_if (Circle x y r) is = cc

pub centre_unless : (x : Shape) → is_line x ≡ false → HasCentre x
centre_unless (Point x y) is = tt
centre_unless (Line x1 y1 x2 y2) is = cc
centre_unless (Circle x y r) is = tt

-- beside a line stands a point or a centre
pub centre_beside : (a b : Shape) → MayBeApart a b → is_line a ≡ true → HasCentre b
centre_beside (Point x y) b fits is = cc
centre_beside (Line x1 y1 x2 y2) b fits is = elim fits [ inl none ↦ absurd none | inr centre ↦ centre ]
centre_beside (Circle x y r) b fits is = cc

-- a line touches what has a centre
pub centre_touched : (a b : Shape) → MayBeTangent a b → is_line a ≡ true → HasCentre b
centre_touched (Point x y) b fits is = cc
centre_touched (Line x1 y1 x2 y2) (Point x y) fits is = elim fits [ inl first ↦ absurd first.1 | inr second ↦ absurd second.0 ]
centre_touched (Line x1 y1 x2 y2) (Line x3 y3 x4 y4) fits is = elim fits [ inl first ↦ absurd first.1 | inr second ↦ absurd second.0 ]
centre_touched (Line x1 y1 x2 y2) (Circle x y r) fits is = tt
centre_touched (Circle x y r) b fits is = cc

-- where the first is no line, the second is
pub line_touched : (a b : Shape) → MayBeTangent a b → is_line a ≡ false → IsLine b
line_touched (Point x y) b fits is = elim fits [ inl first ↦ absurd first.0 | inr second ↦ second.1 ]
line_touched (Line x1 y1 x2 y2) b fits is = cc
line_touched (Circle x y r) b fits is = elim fits [ inl first ↦ absurd first.0 | inr second ↦ second.1 ]

-- two elements that are drawn, and whose shapes fit
pub record AreDrawn (s : Sketch) (fits : Shape → Shape → Type 0) (u v : Elem) : Type 0 where
  pub first : IsSome (shape_of s u)
  pub second : IsSome (shape_of s v)
  pub fit : fits (drawn_as s u) (drawn_as s v)

pub both_drawn : (s : Sketch) (fits : Shape → Shape → Type 0) (u v : Elem) → MayJoin s fits u v → AreDrawn s fits u v
both_drawn s fits u v (other, both) = drawn (shape_of s u) (shape_of s v) refl refl both
  where
    drawn : (a b : Option Shape) → shape_of s u ≡ a → shape_of s v ≡ b → BothFit fits a b → AreDrawn s fits u v
    drawn None b a_is b_is fit = absurd fit
    drawn (Some a) None a_is b_is fit = absurd fit
    drawn (Some a) (Some b) a_is b_is fit = record { first = rw a_is refl; second = rw b_is refl; fit = rw (a_is, b_is) fit }
