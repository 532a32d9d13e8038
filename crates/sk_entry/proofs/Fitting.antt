-- Kinds that a constraint takes fit its rule.
use Rattle.std.proofs.Common.{◌≡◌, ◌≢◌, Bool, true, false, ℤ, inl, inr, refl, ap}
use Rattle.std.specs.Ordering.{int_eq}
use Rattle.std.proofs.lemmas.Bool.Decides.{Decides-int_eq}
use Rattle.sk_base.specs.declared.Um.{Um}
use Rattle.sk_base.specs.declared.Shape.{Shape}
use Rattle.sk_base.specs.declared.Shape.TheVariants.{Point, Line, Circle}
use Rattle.sk_base.specs.SoundSketch.{MayBeApart, MayLieOn, MayBeTangent, AreCircles, AreLines, MayNest}
use Rattle.sk_lines.specs.declared.Keyword.TheVariants as word
use Rattle.sk_entry.specs.Kinds.{takes}
use Rattle.sk_base.specs.Drawn.{radius_of}

pub may_be_apart : (u v : Shape) → takes word.Distance u v ≡ true → MayBeApart u v
may_be_apart (Point x y) v is = inl tt
may_be_apart (Circle x y r) v is = inl tt
may_be_apart (Line x1 y1 x2 y2) (Point x y) is = inr tt
may_be_apart (Line x1 y1 x2 y2) (Circle x y r) is = inr tt
may_be_apart (Line x1 y1 x2 y2) (Line x3 y3 x4 y4) is = cc

pub may_lie_on : (u v : Shape) → takes word.On u v ≡ true → MayLieOn u v
may_lie_on (Point x y) (Line x1 y1 x2 y2) is = inl (tt, tt)
may_lie_on (Point x y) (Circle x1 y1 r) is = inr (tt, tt)
may_lie_on (Circle x y r) (Line x1 y1 x2 y2) is = inl (tt, tt)
may_lie_on (Point x y) (Point x1 y1) is = cc
may_lie_on (Circle x y r) (Point x1 y1) is = cc
may_lie_on (Circle x y r) (Circle x1 y1 r1) is = cc
may_lie_on (Line x1 y1 x2 y2) v is = cc

pub may_be_tangent : (u v : Shape) → takes word.Tangent u v ≡ true → MayBeTangent u v
may_be_tangent (Line x1 y1 x2 y2) (Circle x y r) is = inl (tt, tt)
may_be_tangent (Circle x y r) (Line x1 y1 x2 y2) is = inr (tt, tt)
may_be_tangent (Line x1 y1 x2 y2) (Point x y) is = cc
may_be_tangent (Line x1 y1 x2 y2) (Line x3 y3 x4 y4) is = cc
may_be_tangent (Circle x y r) (Point x1 y1) is = cc
may_be_tangent (Circle x y r) (Circle x1 y1 r1) is = cc
may_be_tangent (Point x y) v is = cc

pub are_circles : (u v : Shape) → takes word.Outside u v ≡ true → AreCircles u v
are_circles (Circle x y r) (Circle x1 y1 r1) is = (tt, tt)
are_circles (Circle x y r) (Point x1 y1) is = cc
are_circles (Circle x y r) (Line x1 y1 x2 y2) is = cc
are_circles (Point x y) v is = cc
are_circles (Line x1 y1 x2 y2) v is = cc

pub are_lines : (u v : Shape) → takes word.Angle u v ≡ true → AreLines u v
are_lines (Line x1 y1 x2 y2) (Line x3 y3 x4 y4) is = (tt, tt)
are_lines (Line x1 y1 x2 y2) (Point x y) is = cc
are_lines (Line x1 y1 x2 y2) (Circle x y r) is = cc
are_lines (Point x y) v is = cc
are_lines (Circle x y r) v is = cc

pub may_nest : (u v : Shape) → takes word.Inside u v ≡ true → radius_of u ≢ radius_of v → MayNest u v
may_nest (Circle x y r) (Circle x1 y1 r1) is other = λ same. other (ap (λ um. um.0) same)
may_nest (Circle x y r) (Point x1 y1) is other = cc
may_nest (Circle x y r) (Line x1 y1 x2 y2) is other = cc
may_nest (Point x y) v is other = cc
may_nest (Line x1 y1 x2 y2) v is other = cc

pub takes_apart : (u v : Shape) → MayBeApart u v → takes word.Distance u v ≡ true
takes_apart (Point x y) v fit = refl
takes_apart (Circle x y r) v fit = refl
takes_apart (Line x1 y1 x2 y2) (Point x y) fit = refl
takes_apart (Line x1 y1 x2 y2) (Circle x y r) fit = refl
takes_apart (Line x1 y1 x2 y2) (Line x3 y3 x4 y4) (inl fit) = absurd fit
takes_apart (Line x1 y1 x2 y2) (Line x3 y3 x4 y4) (inr fit) = absurd fit

pub takes_on : (u v : Shape) → MayLieOn u v → takes word.On u v ≡ true
takes_on (Point x y) (Line x1 y1 x2 y2) fit = refl
takes_on (Point x y) (Circle x1 y1 r) fit = refl
takes_on (Circle x y r) (Line x1 y1 x2 y2) fit = refl
takes_on (Point x y) (Point x1 y1) (inl fit) = absurd fit.1
takes_on (Point x y) (Point x1 y1) (inr fit) = absurd fit.1
takes_on (Circle x y r) (Point x1 y1) (inl fit) = absurd fit.1
takes_on (Circle x y r) (Point x1 y1) (inr fit) = absurd fit.0
takes_on (Circle x y r) (Circle x1 y1 r1) (inl fit) = absurd fit.1
takes_on (Circle x y r) (Circle x1 y1 r1) (inr fit) = absurd fit.0
takes_on (Line x1 y1 x2 y2) v (inl fit) = absurd fit.0
takes_on (Line x1 y1 x2 y2) v (inr fit) = absurd fit.0

pub takes_tangent : (u v : Shape) → MayBeTangent u v → takes word.Tangent u v ≡ true
takes_tangent (Line x1 y1 x2 y2) (Circle x y r) fit = refl
takes_tangent (Circle x y r) (Line x1 y1 x2 y2) fit = refl
takes_tangent (Line x1 y1 x2 y2) (Point x y) (inl fit) = absurd fit.1
takes_tangent (Line x1 y1 x2 y2) (Point x y) (inr fit) = absurd fit.0
takes_tangent (Line x1 y1 x2 y2) (Line x3 y3 x4 y4) (inl fit) = absurd fit.1
takes_tangent (Line x1 y1 x2 y2) (Line x3 y3 x4 y4) (inr fit) = absurd fit.0
takes_tangent (Circle x y r) (Point x1 y1) (inl fit) = absurd fit.0
takes_tangent (Circle x y r) (Point x1 y1) (inr fit) = absurd fit.1
takes_tangent (Circle x y r) (Circle x1 y1 r1) (inl fit) = absurd fit.0
takes_tangent (Circle x y r) (Circle x1 y1 r1) (inr fit) = absurd fit.1
takes_tangent (Point x y) v (inl fit) = absurd fit.0
takes_tangent (Point x y) v (inr fit) = absurd fit.0

pub takes_outside : (u v : Shape) → AreCircles u v → takes word.Outside u v ≡ true
takes_outside (Circle x y r) (Circle x1 y1 r1) fit = refl
takes_outside (Circle x y r) (Point x1 y1) fit = absurd fit.1
takes_outside (Circle x y r) (Line x1 y1 x2 y2) fit = absurd fit.1
takes_outside (Point x y) v fit = absurd fit.0
takes_outside (Line x1 y1 x2 y2) v fit = absurd fit.0

pub takes_angle : (u v : Shape) → AreLines u v → takes word.Angle u v ≡ true
takes_angle (Line x1 y1 x2 y2) (Line x3 y3 x4 y4) fit = refl
takes_angle (Line x1 y1 x2 y2) (Point x y) fit = absurd fit.1
takes_angle (Line x1 y1 x2 y2) (Circle x y r) fit = absurd fit.1
takes_angle (Point x y) v fit = absurd fit.0
takes_angle (Circle x y r) v fit = absurd fit.0

other_radius : (r q : Um) → r ≢ q → int_eq r.0 q.0 ≡ false
other_radius r q other = by (int_eq r.0 q.0) refl
  where
    by : (t : Bool) → int_eq r.0 q.0 ≡ t → t ≡ false
    by true same = let um_of : ℤ → Um = λ z. record { 0 = z } in absurd (other (ap um_of ((Decides-int_eq r.0 q.0).0 same)))
    by false is = refl

pub takes_inside : (u v : Shape) → MayNest u v → (takes word.Inside u v ≡ true) × (int_eq (radius_of u) (radius_of v) ≡ false)
takes_inside (Circle x y r) (Circle x1 y1 q) fit = (refl, other_radius r q fit)
takes_inside (Circle x y r) (Point x1 y1) fit = absurd fit
takes_inside (Circle x y r) (Line x1 y1 x2 y2) fit = absurd fit
takes_inside (Point x y) v fit = absurd fit
takes_inside (Line x1 y1 x2 y2) v fit = absurd fit
