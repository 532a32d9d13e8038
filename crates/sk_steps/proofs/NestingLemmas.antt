-- Frames and constructions on a finer grid.
use Rattle.std.proofs.Common.{◌≡◌, ℕ, suc, ◌+◌, ◌-◌, List, [], ◌∷◌, length, Result, Ok, Err, refl, sym, subst, ap, arith}
use Rattle.std.proofs.lemmas.Int.{ints}
use Rattle.sk_base.specs.declared.Kind.{Kind}
use Rattle.sk_base.specs.declared.Measure.{Measure}
use Rattle.sk_base.specs.declared.Measure.TheVariants.{PointPoint, PointLine, LineLine}
use Rattle.sk_interval.specs.declared.Cause.{Cause}
use Rattle.sk_interval.specs.declared.Cause.TheVariants.{Flat, Gap, Range}
use Rattle.sk_interval.specs.Interval.{Interval}
use Rattle.sk_interval.specs.Nesting.{IsInside}
use Rattle.sk_steps.specs.declared.boxes.BoxOf.{BoxOf}
use Rattle.sk_steps.specs.declared.boxes.BoxOf.TheVariants.{Point, Line}
use Rattle.sk_steps.specs.declared.boxes.Given.{Given}
use Rattle.sk_steps.specs.declared.what.What.{What}
use Rattle.sk_steps.specs.Expressions.{Expression}
use Rattle.sk_steps.specs.Quantities.{evaluate}
use Rattle.sk_steps.specs.Boxes.{zero as nought, kind_of, numbers, from_end, last_box, box_of}
use Rattle.sk_steps.specs.Leaves.{leaf, frame, framed, frame_of}
use Rattle.sk_steps.specs.ThirdElement.{third_element, construction, inputs}
use Rattle.sk_steps.specs.Nesting.{AreInside, Keeps, IsBoxInside, AreBoxesInside, IsGivenInside}
use Rattle.sk_steps.proofs.ExpressionLemmas.{at-IsInside, append-AreInside, evaluate_after-Keeps}

pub evaluate-Keeps : {N : Type 0} (F k : ℕ) (is js : List Interval) (quantities : List (N × Expression)) → AreInside k is js
    → Keeps (AreInside k) (evaluate (F + k) is quantities) (evaluate F js quantities)
evaluate-Keeps F k is js quantities p = evaluate_after-Keeps F k is js [] [] quantities p tt

nought-IsInside : (k : ℕ) → IsInside k nought nought
nought-IsInside k = record { from = omega (arith, ints); ordered = omega (arith, ints); to = omega (arith, ints) }

same_length : (k : ℕ) (xs ys : List Interval) → AreInside k xs ys → length xs ≡ length ys
same_length k [] [] h = refl
same_length k [] (y ∷ ys) h = absurd h
same_length k (x ∷ xs) [] h = absurd h
same_length k (x ∷ xs) (y ∷ ys) h = ap suc (same_length k xs ys h.1)

pub from_end-IsInside : (k : ℕ) (xs ys : List Interval) (i : ℕ) → AreInside k xs ys → IsInside k (from_end xs i) (from_end ys i)
from_end-IsInside k xs ys i h = rw (same_length k xs ys h) (at-IsInside k xs ys (length ys - i) h)

pub numbers-AreInside : {G H : Type 0} (k : ℕ) (b : BoxOf G) (c : BoxOf H) → IsBoxInside k b c → AreInside k (numbers b) (numbers c)
numbers-AreInside k (Point x y) (Point x' y') h = (h.0, (h.1, (nought-IsInside k, tt)))
numbers-AreInside k (Point x y) (Line a' b' c') h = absurd h
numbers-AreInside k (Line a b c) (Point x' y') h = absurd h
numbers-AreInside k (Line a b c) (Line a' b' c') h = (h.0, (h.1, (h.2, tt)))

pub same_kind : {G H : Type 0} (k : ℕ) (b : BoxOf G) (c : BoxOf H) → IsBoxInside k b c → kind_of b ≡ kind_of c
same_kind k (Point x y) (Point x' y') h = refl
same_kind k (Point x y) (Line a' b' c') h = absurd h
same_kind k (Line a b c) (Point x' y') h = absurd h
same_kind k (Line a b c) (Line a' b' c') h = refl

last_box-IsBoxInside : (G H : Type 0) (k : ℕ) (kind : Kind) (xs ys : List Interval) → AreInside k xs ys → IsBoxInside {G = G} {H = H} k (last_box kind xs) (last_box kind ys)
last_box-IsBoxInside G H k Kind.Point xs ys h = (from_end-IsInside k xs ys 2 h, from_end-IsInside k xs ys 1 h)
last_box-IsBoxInside G H k Kind.Line xs ys h = (from_end-IsInside k xs ys 3 h, from_end-IsInside k xs ys 2 h, from_end-IsInside k xs ys 1 h)

pub box_of-Keeps : (G H : Type 0) (k : ℕ) (kind : Kind) (fine coarse : Result (List Interval) (What × Cause)) → Keeps (AreInside k) fine coarse
    → Keeps (IsBoxInside {G = G} {H = H} k) (box_of kind fine) (box_of kind coarse)
box_of-Keeps G H k kind fine (Ok ys) h = (last_box kind h.0, ap (box_of kind) h.1, last_box-IsBoxInside G H k kind h.0 ys h.2)
box_of-Keeps G H k kind fine (Err (what, Gap lo hi)) h = (h.0, h.1, ap (box_of kind) h.2)
box_of-Keeps G H k kind fine (Err (what, Flat lo hi)) h = tt
box_of-Keeps G H k kind fine (Err (what, Range)) h = tt

-- ---- constructions

inputs-AreInside : {G H : Type 0} (k : ℕ) (fine : Given G) (coarse : Given H) → IsGivenInside k fine coarse → AreInside k (inputs fine) (inputs coarse)
inputs-AreInside k fine coarse h =
    append-AreInside k _ _ _ _ (numbers-AreInside k fine.u coarse.u h.u)
    (append-AreInside k _ _ _ _ (numbers-AreInside k fine.v coarse.v h.v)
    (append-AreInside k _ _ _ _ (numbers-AreInside k fine.ux coarse.ux h.ux)
    (append-AreInside k _ _ _ _ (numbers-AreInside k fine.wx coarse.wx h.wx)
    (append-AreInside k _ _ _ _ (numbers-AreInside k fine.vy coarse.vy h.vy) (numbers-AreInside k fine.wy coarse.wy h.wy)))))

pub third_element-Keeps : (G H : Type 0) (F k : ℕ) (fine : Given G) (coarse : Given H) → IsGivenInside k fine coarse → Keeps (IsBoxInside k) (third_element (F + k) fine) (third_element F coarse)
third_element-Keeps G H F k fine coarse h =
    rw (h.root, same_kind k fine.u coarse.u h.u, same_kind k fine.v coarse.v h.v, same_kind k fine.wx coarse.wx h.wx)
    (box_of-Keeps G H k (kind_of coarse.wx) _ _
    (evaluate-Keeps F k (inputs fine) (inputs coarse) (construction coarse.root (kind_of coarse.u) (kind_of coarse.v) (kind_of coarse.wx)) (inputs-AreInside k fine coarse h)))

-- ---- frames

framed-AreBoxesInside : (G H : Type 0) (k : ℕ) (measure : Measure) (xs ys : List Interval) → AreInside k xs ys
    → AreBoxesInside {G = G} {H = H} k (framed measure xs) (framed measure ys)
framed-AreBoxesInside G H k (PointPoint far) xs ys h =
    ((at-IsInside k xs ys 0 h, at-IsInside k xs ys 1 h), (at-IsInside k xs ys 2 h, at-IsInside k xs ys 3 h))
framed-AreBoxesInside G H k (PointLine far side) xs ys h =
    ((at-IsInside k xs ys 0 h, at-IsInside k xs ys 1 h), (at-IsInside k xs ys 2 h, at-IsInside k xs ys 3 h, at-IsInside k xs ys 4 h))
framed-AreBoxesInside G H k (LineLine ratio sense) xs ys h =
    ((at-IsInside k xs ys 0 h, at-IsInside k xs ys 1 h, at-IsInside k xs ys 2 h), (at-IsInside k xs ys 3 h, at-IsInside k xs ys 4 h, at-IsInside k xs ys 5 h))

frame_of-Keeps : (G H : Type 0) (k : ℕ) (measure : Measure) (fine coarse : Result (List Interval) (What × Cause)) → Keeps (AreInside k) fine coarse
    → Keeps (AreBoxesInside {G = G} {H = H} k) (frame_of measure fine) (frame_of measure coarse)
frame_of-Keeps G H k measure fine (Ok ys) h = (framed measure h.0, ap (frame_of measure) h.1, framed-AreBoxesInside G H k measure h.0 ys h.2)
frame_of-Keeps G H k measure fine (Err (what, Gap lo hi)) h = (h.0, h.1, ap (frame_of measure) h.2)
frame_of-Keeps G H k measure fine (Err (what, Flat lo hi)) h = tt
frame_of-Keeps G H k measure fine (Err (what, Range)) h = tt

pub leaf-Keeps : (G H : Type 0) (F k : ℕ) (measure : Measure) → Keeps (AreBoxesInside {G = G} {H = H} k) (leaf (F + k) measure) (leaf F measure)
leaf-Keeps G H F k measure = frame_of-Keeps G H k measure _ _ (evaluate-Keeps F k [] [] (frame measure) tt)

pub leaf-inside : (G H : Type 0) (F k : ℕ) (measure : Measure) (coarse : BoxOf H × BoxOf H) → Ok coarse ≡ leaf F measure
    → (fine : BoxOf G × BoxOf G) × (leaf (F + k) measure ≡ Ok fine) × AreBoxesInside k fine coarse
leaf-inside G H F k measure coarse is =
    let P : Result (BoxOf H × BoxOf H) (What × Cause) → Type 0 = λ answer. Keeps (AreBoxesInside {G = G} {H = H} k) (leaf (F + k) measure) answer in
    subst P (sym is) (leaf-Keeps G H F k measure)
