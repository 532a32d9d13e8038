-- The kinds of the boxes that quantities make.
use Rattle.std.proofs.Common.{◌≡◌, ℕ, List, [], Result, Ok, Err, refl, sym, subst}
use Rattle.std.specs.Prelude.{IfOk}
use Rattle.sk_base.specs.declared.Kind.{Kind}
use Rattle.sk_base.specs.declared.Measure.{Measure}
use Rattle.sk_base.specs.declared.Measure.TheVariants.{PointPoint, PointLine, LineLine}
use Rattle.sk_interval.specs.declared.Cause.{Cause}
use Rattle.sk_interval.specs.Interval.{Interval}
use Rattle.sk_steps.specs.declared.boxes.BoxOf.{BoxOf}
use Rattle.sk_steps.specs.declared.what.What.{What}
use Rattle.sk_steps.specs.Quantities.{evaluate}
use Rattle.sk_steps.specs.Boxes.{kind_of, last_box, box_of}
use Rattle.sk_steps.specs.Leaves.{leaf, frame, framed, frame_of, AreMeasured}

last_box-kind : (G : Type 0) (kind : Kind) (found : List Interval) → kind_of {G = G} (last_box kind found) ≡ kind
last_box-kind G Kind.Point found = refl
last_box-kind G Kind.Line found = refl

pub box_of-kind : (G N : Type 0) (kind : Kind) (found : Result (List Interval) N) → IfOk (box_of {G = G} kind found) (λ b. kind_of b ≡ kind)
box_of-kind G N kind (Ok found) = last_box-kind G kind found
box_of-kind G N kind (Err fault) = tt

framed-AreMeasured : (G : Type 0) (measure : Measure) (found : List Interval) → AreMeasured {G = G} measure (framed measure found)
framed-AreMeasured G (PointPoint far) found = (refl, refl)
framed-AreMeasured G (PointLine far side) found = (refl, refl)
framed-AreMeasured G (LineLine ratio sense) found = (refl, refl)

frame_of-AreMeasured : (G N : Type 0) (measure : Measure) (found : Result (List Interval) N) → IfOk (frame_of {G = G} measure found) (AreMeasured measure)
frame_of-AreMeasured G N measure (Ok found) = framed-AreMeasured G measure found
frame_of-AreMeasured G N measure (Err fault) = tt

pub leaf-AreMeasured : (G : Type 0) (F : ℕ) (measure : Measure) (boxes : BoxOf G × BoxOf G) → Ok boxes ≡ leaf F measure → AreMeasured measure boxes
leaf-AreMeasured G F measure boxes is =
    let P : Result (BoxOf G × BoxOf G) (What × Cause) → Type 0 = λ r. IfOk r (AreMeasured measure) in
    subst P (sym is) (frame_of-AreMeasured G (What × Cause) measure (evaluate F [] (frame measure)))
