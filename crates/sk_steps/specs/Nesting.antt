-- Boxes on a finer grid, of k further digits, inside those on a coarser one.
use Rattle.std.specs.Prelude.{◌≡◌, ℕ, ◌+◌, ℤ, List, [], ◌∷◌, Result, Ok, Err}
use Rattle.sk_base.specs.declared.Measure.{Measure}
use Rattle.sk_base.specs.declared.Pin.{Pin}
use Rattle.sk_interval.specs.declared.Cause.{Cause}
use Rattle.sk_interval.specs.declared.Cause.TheVariants.{Flat, Gap, Range}
use Rattle.sk_interval.specs.Interval.{Interval}
use Rattle.sk_interval.specs.Nesting.{IsInside}
use Rattle.sk_steps.specs.declared.boxes.BoxOf.{BoxOf}
use Rattle.sk_steps.specs.declared.boxes.BoxOf.TheVariants.{Point, Line}
use Rattle.sk_steps.specs.declared.boxes.Given.{Given}
use Rattle.sk_steps.specs.declared.what.What.{What}
use Rattle.sk_steps.specs.Leaves.{leaf, pin_box}
use Rattle.sk_steps.specs.ThirdElement.{third_element}

-- each interval of a list lies inside that at its place in the other
abbrev pub AreInside : ℕ → List Interval → List Interval → Type 0
AreInside k [] [] = Unit {0}
AreInside k [] (y ∷ ys) = ⊥
AreInside k (x ∷ xs) [] = ⊥
AreInside k (x ∷ xs) (y ∷ ys) = IsInside k x y × AreInside k xs ys

-- more digits take back neither the result nor a gap: the result holds one inside it, in the sense of P, and a gap
-- stays a gap of the same quantity
abbrev pub Keeps : {N X Y : Type 0} → (X → Y → Type 0) → Result X (N × Cause) → Result Y (N × Cause) → Type 0
Keeps {N} {X} P fine (Ok coarse) = (x : X) × (fine ≡ Ok x) × P x coarse
Keeps P fine (Err (name, Gap lo hi)) = (l : ℤ) × (h : ℤ) × (fine ≡ Err (name, Gap l h))
Keeps P fine (Err (name, Flat lo hi)) = Unit {0}
Keeps P fine (Err (name, Range)) = Unit {0}

-- a box of the same kind, each of its numbers inside
abbrev pub IsBoxInside : {G H : Type 0} → ℕ → BoxOf G → BoxOf H → Type 0
IsBoxInside k (Point x y) (Point x' y') = IsInside k x x' × IsInside k y y'
IsBoxInside k (Point x y) (Line a' b' c') = ⊥
IsBoxInside k (Line a b c) (Point x' y') = ⊥
IsBoxInside k (Line a b c) (Line a' b' c') = IsInside k a a' × IsInside k b b' × IsInside k c c'

abbrev pub AreBoxesInside : {G H : Type 0} → ℕ → BoxOf G × BoxOf G → BoxOf H × BoxOf H → Type 0
AreBoxesInside k fine coarse = IsBoxInside k fine.0 coarse.0 × IsBoxInside k fine.1 coarse.1

-- the same construction on boxes inside
pub record IsGivenInside {G H : Type 0} (k : ℕ) (fine : Given G) (coarse : Given H) : Type 0 where
  pub u : IsBoxInside k fine.u coarse.u
  pub v : IsBoxInside k fine.v coarse.v
  pub ux : IsBoxInside k fine.ux coarse.ux
  pub wx : IsBoxInside k fine.wx coarse.wx
  pub vy : IsBoxInside k fine.vy coarse.vy
  pub wy : IsBoxInside k fine.wy coarse.wy
  pub root : fine.root ≡ coarse.root

-- on every finer grid, the frame has boxes inside these
abbrev pub HoldsFinerFrames : {G : Type 0} → ℕ → Measure → BoxOf G × BoxOf G → Type 0
HoldsFinerFrames {G} F measure coarse = (k : ℕ) → (fine : BoxOf G × BoxOf G) × (leaf (F + k) measure ≡ Ok fine) × AreBoxesInside k fine coarse

-- on every finer grid, the pin has its point inside this one
abbrev pub HoldsFinerPoint : {G : Type 0} → ℕ → Pin → BoxOf G → Type 0
HoldsFinerPoint {G} F pin coarse = (k : ℕ) → IsBoxInside {G = G} k (pin_box (F + k) pin) coarse

-- on every finer grid, boxes inside those given keep the answer
abbrev pub IsKeptInside : {G : Type 0} → ℕ → Given G → Result (BoxOf G) (What × Cause) → Type 0
IsKeptInside {G} F g answer = (k : ℕ) (fine : Given G) → IsGivenInside k fine g → Keeps (IsBoxInside k) (third_element (F + k) fine) answer
