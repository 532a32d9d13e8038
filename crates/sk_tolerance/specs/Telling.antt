-- What the functions of this crate tell each other on the way.
use Rattle.std.specs.Prelude.{◌≢◌, ◌==◌, ◌||◌, ◌&&◌, nat_lt, Bool, true, false, ℕ, List, Option, Some, None, IsSome, MatchOption}
use Rattle.sk_base.specs.declared.ConId.{ConId}
use Rattle.sk_base.specs.declared.Elem.{Elem}
use Rattle.sk_base.specs.declared.Placed.{Placed}
use Rattle.sk_base.specs.declared.Sketch.{Sketch}
use Rattle.sk_base.specs.Drawn.{shape_of, IsLine, HasCentre}
use Rattle.sk_graph.specs.SketchGraph.{drawn_as}
use Rattle.sk_tree.specs.declared.PlanStep.{PlanStep}
use Rattle.sk_tolerance.specs.declared.beyond.Beyond.{Beyond}
use Rattle.sk_tolerance.specs.declared.spotted.Spotted.{Spotted}
use Rattle.sk_tolerance.specs.declared.spotted.Spotted.TheVariants.{Con, Line}
use Rattle.sk_tolerance.specs.declared.turned.Turned.{Turned}
use Rattle.sk_tolerance.specs.declared.worst.Worst.{Worst}
use Rattle.sk_measure.specs.Least.{IsLeast}
use Rattle.sk_tolerance.specs.First.{IsFirst}
use Rattle.sk_measure.specs.Items.{Item}
use Rattle.sk_tolerance.specs.Tolerances.{number_in, AllHold, IsWorstUnlessNone, IsFirstBeyond}
use Rattle.sk_tolerance.specs.Turns.{IsTurned, AllAsDrawn}

-- the least number within which all items hold, and the worst of them
pub record IsTold (p : Placed) (items : List Item) (worst : Worst) : Type 0 where
  pub least : IsLeast (AllHold p items) worst.least
  pub at : IsWorstUnlessNone p items worst.least worst.at

-- the one has the greater least number or, where both are the same, the first name
abbrev pub is_worse_at : ℕ → Option Spotted → ℕ → Option Spotted → Bool
is_worse_at n None m beside = false
is_worse_at n (Some at) m None = true
is_worse_at n (Some at) m (Some beside) = nat_lt m n || ((n == m) && nat_lt (number_in at) (number_in beside))

abbrev pub is_worse : Worst → Worst → Bool
is_worse one other = is_worse_at one.least one.at other.least other.at

-- the constraint of that name
abbrev pub spotted_constraint : Option Spotted → Option ConId
spotted_constraint None = None
spotted_constraint (Some (Con k)) = Some k
spotted_constraint (Some (Line e)) = None

-- all hold within the limit, or the first that doesn't is told
abbrev pub IsSearched : Placed → List Item → ℕ → Option Beyond → Type 0
IsSearched p items limit beyond = MatchOption beyond (AllHold p items limit) (IsFirstBeyond p items limit)

-- all are as drawn, or the first that isn't is told
abbrev pub IsCompared : List Turned → Option Turned → Type 0
IsCompared signs turned = MatchOption turned (AllAsDrawn signs) (IsFirst IsTurned signs)

-- drawn as a point or a circle
abbrev pub IsDrawnPoint : Sketch → Elem → Type 0
IsDrawnPoint s e = IsSome (shape_of s e) × HasCentre (drawn_as s e)

abbrev pub IsDrawnLine : Sketch → Elem → Type 0
IsDrawnLine s e = IsSome (shape_of s e) × IsLine (drawn_as s e)

-- the three elements of the step are different, and drawn
pub record HasCorners (s : Sketch) (step : PlanStep) : Type 0 where
  pub differ : (step.a ≢ step.b) × (step.b ≢ step.c) × (step.c ≢ step.a)
  pub a : IsSome (shape_of s step.a)
  pub b : IsSome (shape_of s step.b)
  pub c : IsSome (shape_of s step.c)
