-- A gap that is named, and where the same is named on a finer grid.
use Rattle.std.specs.Prelude.{◌≡◌, ◌≤◌, ℕ, ℤ, List}
use Rattle.sk_base.specs.declared.Sketch.{Sketch}
use Rattle.sk_interval.specs.declared.Cause.TheVariants.{Gap}
use Rattle.sk_tree.specs.declared.Plan.{Plan as ThePlan}
use Rattle.sk_place.specs.declared.PlaceBy.TheVariants.{Boxes}
use Rattle.sk_place.specs.declared.StepFault.{StepFault}
use Rattle.sk_place.specs.Nesting.{with_gap}
use Rattle.sk_report.specs.FaultLines.{fault_line}
use Rattle.sk_request.specs.declared.Request.{Request}
use Rattle.sk_request.specs.Grids.{digits_of}
use Rattle.sk_laws.specs.Causes.{IsItsPlan, IsFaultAt}

-- both ask for one plan and for boxes, the second on a grid of as many binary digits or more
pub record IsAsFine (coarse fine : Request) : Type 0 where
  pub order : coarse.order ≡ fine.order
  pub coarse_boxes : coarse.layout.by ≡ Boxes
  pub fine_boxes : fine.layout.by ≡ Boxes
  pub digits : digits_of coarse.bits ≤ digits_of fine.bits

-- the text names this fault, the first of the sketch's plan, and it is a gap
pub record NamesGap (request : Request) (s : Sketch) (f : StepFault) (text : List ℕ) : Type 0 where
  pub plan : ThePlan
  pub its : IsItsPlan request s plan
  pub first : IsFaultAt request s plan f
  pub gap : (lo : ℤ) × (hi : ℤ) × (f.cause ≡ Gap lo hi)
  pub line : text ≡ fault_line s f (digits_of request.bits)

-- the text names a gap at the same step, in the same phase, at the same quantity and element
abbrev pub NamesGapThere : Request → Sketch → StepFault → List ℕ → Type 0
NamesGapThere request s f text = (lo : ℤ) × (hi : ℤ) × NamesGap request s (with_gap f lo hi) text
