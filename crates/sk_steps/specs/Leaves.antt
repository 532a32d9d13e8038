-- The frames of starting clusters.
use Rattle.std.specs.Prelude.{◌≡◌, ℕ, ℤ, pos, neg_ℤ, ◌+ℤ◌, ◌*ℤ◌, List, [], ◌∷◌, Result, Ok, Err}
use Rattle.sk_base.specs.declared.Sign.{Sign}
use Rattle.sk_base.specs.declared.Sign.TheVariants.{Plus, Minus}
use Rattle.sk_base.specs.declared.Ratio.{Ratio}
use Rattle.sk_base.specs.declared.Measure.{Measure}
use Rattle.sk_base.specs.declared.Measure.TheVariants.{PointPoint, PointLine, LineLine}
use Rattle.sk_base.specs.declared.Kind.{Kind}
use Rattle.sk_base.specs.declared.Pin.{Pin}
use Rattle.sk_base.specs.Bounds.{IsFromTo}
use Rattle.sk_base.specs.SoundSketch.{IsSoundRatio}
use Rattle.sk_interval.specs.declared.Cause.{Cause}
use Rattle.sk_interval.specs.Interval.{Interval}
use Rattle.sk_interval.specs.Operations.{of_micrometres}
use Rattle.sk_steps.specs.Expressions.{Expression, at, number, micrometres, signed, ◌⊘◌, square_root, length_box, normal_box}
use Rattle.sk_steps.specs.Quantities.{evaluate}
use Rattle.sk_steps.specs.Boxes.{kind_of}
use Rattle.sk_steps.specs.declared.what.What.{What}
use Rattle.sk_steps.specs.declared.what.What.TheVariants.{X, Y, A, B, C}
use Rattle.sk_steps.specs.declared.boxes.BoxOf.{BoxOf}
use Rattle.sk_steps.specs.declared.boxes.BoxOf.TheVariants.{Point, Line}

-- σ n
abbrev pub by_sign : Sign → ℤ → ℤ
by_sign Plus n = n
by_sign Minus n = neg_ℤ n

-- −σ
abbrev pub opposite : Sign → Sign
opposite Plus = Minus
opposite Minus = Plus

-- p² + q²
abbrev pub square_of : Ratio → ℤ
square_of r = (r.p *ℤ r.p) +ℤ (r.q *ℤ r.q)

-- n / N, where N is the root of p² + q²
abbrev pub part : ℤ → Ratio → Expression
part n r = number n ⊘ square_root (number (square_of r))

-- the numbers of the box of u, and then of that of v
abbrev pub frame : Measure → List (What × Expression)
frame (PointPoint far) =
    (X, length_box (number (pos 0)))
    ∷ (Y, length_box (number (pos 0)))
    ∷ (X, length_box (micrometres far.0))
    ∷ (Y, length_box (number (pos 0)))
    ∷ []
frame (PointLine far side) =
    (X, length_box (number (pos 0)))
    ∷ (Y, length_box (signed side (micrometres far.0)))
    ∷ (A, normal_box (number (pos 0)))
    ∷ (B, normal_box (number (pos 1)))
    ∷ (C, length_box (number (pos 0)))
    ∷ []
frame (LineLine ratio sense) =
    (A, normal_box (number (pos 0)))
    ∷ (B, normal_box (number (pos 1)))
    ∷ (C, length_box (number (pos 0)))
    ∷ (A, normal_box (part (by_sign (opposite sense) ratio.p) ratio))
    ∷ (B, normal_box (part (by_sign sense ratio.q) ratio))
    ∷ (C, length_box (number (pos 0)))
    ∷ []

-- a pair of boxes from these quantities
abbrev pub framed : {G : Type 0} → Measure → List Interval → BoxOf G × BoxOf G
framed (PointPoint far) found = (Point (at found 0) (at found 1), Point (at found 2) (at found 3))
framed (PointLine far side) found = (Point (at found 0) (at found 1), Line (at found 2) (at found 3) (at found 4))
framed (LineLine ratio sense) found = (Line (at found 0) (at found 1) (at found 2), Line (at found 3) (at found 4) (at found 5))

abbrev pub frame_of : {G N : Type 0} → Measure → Result (List Interval) N → Result (BoxOf G × BoxOf G) N
frame_of measure (Ok found) = Ok (framed measure found)
frame_of measure (Err fault) = Err fault

-- the boxes of the two ends
abbrev pub leaf : {G : Type 0} → ℕ → Measure → Result (BoxOf G × BoxOf G) (What × Cause)
leaf F measure = frame_of measure (evaluate F [] (frame measure))

-- the boxes are of the kinds that are measured
abbrev pub AreMeasured : {G : Type 0} → Measure → BoxOf G × BoxOf G → Type 0
AreMeasured (PointPoint far) boxes = (kind_of boxes.0 ≡ Kind.Point) × (kind_of boxes.1 ≡ Kind.Point)
AreMeasured (PointLine far side) boxes = (kind_of boxes.0 ≡ Kind.Point) × (kind_of boxes.1 ≡ Kind.Line)
AreMeasured (LineLine ratio sense) boxes = (kind_of boxes.0 ≡ Kind.Line) × (kind_of boxes.1 ≡ Kind.Line)

-- what a sound graph says of a measure
abbrev pub IsSoundMeasure : Measure → Type 0
IsSoundMeasure (PointPoint far) = IsFromTo 1 2000000000 far.0
IsSoundMeasure (PointLine far side) = IsFromTo 0 1000000000 far.0
IsSoundMeasure (LineLine ratio sense) = IsSoundRatio ratio

-- the point of a pin, in the frame of its block
abbrev pub pin_box : {G : Type 0} → ℕ → Pin → BoxOf G
pin_box F pin = Point (of_micrometres F pin.x.0) (of_micrometres F pin.y.0)
