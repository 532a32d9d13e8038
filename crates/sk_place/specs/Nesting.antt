-- Boxes on a finer grid, of k further digits, inside those on a coarser one, where places are boxes on both.
use Rattle.std.specs.Prelude.{◌≡◌, ◌+◌, ℕ, ℤ, List, [], ◌∷◌, Result, Ok, Err}
use Rattle.sk_base.specs.declared.Graph.{Graph}
use Rattle.sk_interval.specs.declared.Cause.{Cause}
use Rattle.sk_interval.specs.declared.Cause.TheVariants.{Flat, Gap, Range}
use Rattle.sk_steps.specs.Nesting.{IsBoxInside}
use Rattle.sk_tree.specs.declared.Plan.{Plan}
use Rattle.sk_tree.specs.declared.Tree.{Tree}
use Rattle.sk_place.specs.declared.boxes.BoxAt.{BoxAt}
use Rattle.sk_place.specs.declared.settling.PlaceBy.TheVariants.{Boxes}
use Rattle.sk_place.specs.declared.fault.StepFault.{StepFault}
use Rattle.sk_place.specs.declared.fault.BoxFault.{BoxFault}
use Rattle.sk_place.specs.declared.fault.MoveError.{MoveError}
use Rattle.sk_place.specs.declared.fault.PlaceError.{PlaceError}
use Rattle.sk_place.specs.declared.fault.PlaceError.TheVariants.{Fault, NoMemory}
use Rattle.sk_place.specs.Trees.{HasBoxes, IsFirstFault}
use Rattle.sk_tree.specs.PlanTree.{IsPlanTree}
use Rattle.sk_place.specs.Placing.{lone_boxes}

-- each box lies inside that at its place in the other list, which is of the same element
abbrev pub AreInside : {G H : Type 0} → ℕ → List (BoxAt G) → List (BoxAt H) → Type 0
AreInside k [] [] = Unit {0}
AreInside k [] (y ∷ ys) = ⊥
AreInside k (x ∷ xs) [] = ⊥
AreInside k (x ∷ xs) (y ∷ ys) = (x.elem ≡ y.elem) × IsBoxInside k x.at y.at × AreInside k xs ys

-- the same step, phase, quantity and element, with these ends of a gap
abbrev pub with_gap : StepFault → ℤ → ℤ → StepFault
with_gap f lo hi = record { step = f.step; phase = f.phase; what = f.what; elem = f.elem; cause = Gap lo hi }

-- where the cause is a gap, the tree has a gap on this grid at the same place, and it is the first fault
abbrev pub KeepsGap : Type 0 → ℕ → Graph → Plan → StepFault → Cause → Type 0
KeepsGap G F g p f (Gap lo hi) = (t : Tree) → IsPlanTree p t → (l : ℤ) × (h : ℤ) × IsFirstFault G Boxes F g p.steps t (with_gap f l h)
KeepsGap G F g p f (Flat lo hi) = Unit {0}
KeepsGap G F g p f Range = Unit {0}

-- k further digits take back neither boxes nor a gap
abbrev pub IsKept : {G : Type 0} → ℕ → ℕ → Graph → Plan → Result (List (BoxAt G)) PlaceError → Type 0
IsKept {G} F k g p (Ok bs) =
    ((t : Tree) → IsPlanTree p t → (fine : List (BoxAt G)) × HasBoxes Boxes (F + k) g p.steps t fine × AreInside k fine bs)
    × (p.leaves ≡ [] → AreInside {G = G} k (lone_boxes (F + k) g) bs)
IsKept {G} F k g p (Err (Fault f)) = KeepsGap G (F + k) g p f f.cause
IsKept F k g p (Err NoMemory) = Unit {0}

-- the same for boxes that are all carried by one motion; one that can't be carried leaves nothing to say of the finer grid,
-- since its cause is never a gap
abbrev pub KeepsMoved : {G : Type 0} → ℕ → Result (List (BoxAt G)) BoxFault → Result (List (BoxAt G)) MoveError → Type 0
KeepsMoved {G} k fine (Ok bs) = (xs : List (BoxAt G)) × (fine ≡ Ok xs) × AreInside k xs bs
KeepsMoved k fine (Err e) = Unit {0}
