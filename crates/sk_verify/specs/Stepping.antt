-- What the functions of this crate tell each other on the way.
use Rattle.std.specs.Prelude.{◌≡◌, ⊤, ◌+◌, ◌≤◌, List, Option, MatchOption, length}
use Rattle.sk_base.specs.declared.Element.{Element}
use Rattle.sk_base.specs.declared.Elem.{Elem}
use Rattle.sk_base.specs.declared.Graph.{Graph}
use Rattle.sk_base.specs.declared.Sketch.{Sketch}
use Rattle.sk_family.specs.Clusters.{Clusters, initial_clusters}
use Rattle.sk_tolerance.specs.declared.Spotted.{Spotted}
use Rattle.sk_measure.specs.Items.{Item}
use Rattle.sk_tree.specs.declared.PlanStep.{PlanStep}
use Rattle.sk_claims.specs.declared.Claim.{Claim}
use Rattle.sk_verify.specs.declared.failure.Failure.{Failure}
use Rattle.sk_verify.specs.declared.failure.Failure.TheVariants.{Step, Parts, Element as OfElement, Line, Con, Sign}
use Rattle.sk_verify.specs.declared.failure.VerifyError.{VerifyError}
use Rattle.sk_verify.specs.declared.failure.VerifyError.TheVariants.{Fails, NoMemory}
use Rattle.sk_verify.specs.RightSteps.{AreRight, IsFirstWrong, after}
use Rattle.sk_verify.specs.Failing.{AllTold, AllHoldAsClaimed, IsFirstUntold, IsFirstOff}

-- the family may take as many steps as it has clusters, and more than that it never takes
abbrev pub HasRoom : Clusters → Type 0
HasRoom f = f.next_step + length f.live ≤ 4001

-- each step is right, and they lead to the family
pub record LeadsTo (s : Sketch) (g : Graph) (steps : List PlanStep) (end : Clusters) : Type 0 where
  pub right : AreRight s g (initial_clusters g) steps
  pub end_is : end ≡ after (initial_clusters g) steps

-- the failure is that of the first step that isn't right
abbrev pub IsOfStep : Sketch → Graph → List PlanStep → Failure → Type 0
IsOfStep s g steps (Step n) = IsFirstWrong s g (initial_clusters g) steps n
IsOfStep s g steps Parts = ⊥
IsOfStep s g steps (OfElement e) = ⊥
IsOfStep s g steps (Line e) = ⊥
IsOfStep s g steps (Con k) = ⊥
IsOfStep s g steps (Sign n) = ⊥

-- the same of an error, unless memory ran out
abbrev pub IsStepFailure : Sketch → Graph → List PlanStep → VerifyError → Type 0
IsStepFailure s g steps (Fails f) = IsOfStep s g steps f
IsStepFailure s g steps NoMemory = ⊤

-- all are told, or the first that isn't
abbrev pub IsTelling : Claim → List Element → Option Elem → Type 0
IsTelling c elements untold = MatchOption untold (AllTold c elements) (IsFirstUntold c elements)

-- all hold as claimed, or the first that doesn't is named
abbrev pub IsMeasured : Claim → List Item → Option Spotted → Type 0
IsMeasured c items off = MatchOption off (AllHoldAsClaimed c items) (IsFirstOff c items)
