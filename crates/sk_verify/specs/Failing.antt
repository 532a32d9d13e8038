-- When a claim is accepted, and what fails first.
use Rattle.std.specs.Prelude.{◌≡◌, ⊤, List, Contains}
use Rattle.sk_base.specs.declared.Elem.{Elem}
use Rattle.sk_base.specs.declared.Element.{Element}
use Rattle.sk_base.specs.declared.Graph.{Graph}
use Rattle.sk_base.specs.declared.Name.{Name}
use Rattle.sk_base.specs.declared.Sketch.{Sketch}
use Rattle.sk_family.specs.Clusters.{initial_clusters}
use Rattle.sk_tolerance.specs.declared.Spotted.{Spotted}
use Rattle.sk_tolerance.specs.declared.Spotted.TheVariants as spotted
use Rattle.sk_tolerance.specs.declared.Turned.{Turned}
use Rattle.sk_tolerance.specs.First.{IsFirst}
use Rattle.sk_measure.specs.Items.{Item}
use Rattle.sk_tolerance.specs.Tolerances.{spotted_as, everything}
use Rattle.sk_tolerance.specs.Turns.{signs, IsTurned, AllAsDrawn}
use Rattle.sk_tree.specs.LegalPlan.{IsWhole}
use Rattle.sk_claims.specs.declared.Claim.{Claim}
use Rattle.sk_verify.specs.declared.failure.Failure.{Failure}
use Rattle.sk_verify.specs.declared.failure.Failure.TheVariants.{Step, Parts, Element as OfElement, Line, Con, Sign}
use Rattle.sk_verify.specs.declared.failure.VerifyError.{VerifyError}
use Rattle.sk_verify.specs.declared.failure.VerifyError.TheVariants.{Fails, NoMemory}
use Rattle.sk_verify.specs.RightSteps.{AreRight, IsFirstWrong, after}
use Rattle.sk_verify.specs.AsClaimed.{IsTold, HoldsAsClaimed, plan_claimed}

-- from the starting clusters on each step is right
abbrev pub HasRightSteps : Sketch → Graph → Claim → Type 0
HasRightSteps s g c = AreRight s g (initial_clusters g) c.steps

-- the steps leave one cluster with all nodes, or there is one node, no constraint and no block
abbrev pub LeavesWhole : Graph → Claim → Type 0
LeavesWhole g c = IsWhole g (after (initial_clusters g) c.steps)

abbrev pub AllTold : Claim → List Element → Type 0
AllTold c elements = (x : Element) → Contains elements x → IsTold c x

abbrev pub AllHoldAsClaimed : Claim → List Item → Type 0
AllHoldAsClaimed c items = (item : Item) → Contains items item → HoldsAsClaimed c item

abbrev pub HasDrawnSigns : Sketch → Graph → Claim → Type 0
HasDrawnSigns s g c = AllAsDrawn (signs s c.at (plan_claimed g c))

-- the steps are right and leave the whole
pub record IsJoined (s : Sketch) (g : Graph) (c : Claim) : Type 0 where
  pub steps : HasRightSteps s g c
  pub whole : LeavesWhole g c

-- and each element is told
pub record IsComplete (s : Sketch) (g : Graph) (c : Claim) : Type 0 where
  pub joined : IsJoined s g c
  pub told : AllTold c s.elements

-- and each line's normal and each constraint holds within the tolerances
pub record IsMet (s : Sketch) (g : Graph) (c : Claim) : Type 0 where
  pub complete : IsComplete s g c
  pub holds : AllHoldAsClaimed c (everything g)

-- and no sign is turned over: nothing fails
pub record IsAccepted (s : Sketch) (g : Graph) (c : Claim) : Type 0 where
  pub met : IsMet s g c
  pub signs : HasDrawnSigns s g c

-- the first element, by number, that isn't told
abbrev pub IsFirstUntold : Claim → List Element → Elem → Type 0
IsFirstUntold c elements e = (x : Element) × IsFirst (λ y. ¬ IsTold c y) elements x × (x.number ≡ e)

-- the first line, and else the first constraint, that doesn't hold as claimed
abbrev pub IsFirstOff : Claim → List Item → Spotted → Type 0
IsFirstOff c items at = (item : Item) × IsFirst (λ i. ¬ HoldsAsClaimed c i) items item × (spotted_as item ≡ at)

-- the first sign that isn't as drawn
abbrev pub IsFirstTurned : Sketch → Graph → Claim → Name → Type 0
IsFirstTurned s g c n = (t : Turned) × IsFirst IsTurned (signs s c.at (plan_claimed g c)) t × (t.at ≡ n)

-- nothing before it fails, and this does
abbrev pub FailsFirst : Sketch → Graph → Claim → Failure → Type 0
FailsFirst s g c (Step n) = IsFirstWrong s g (initial_clusters g) c.steps n
FailsFirst s g c Parts = HasRightSteps s g c × ¬ LeavesWhole g c
FailsFirst s g c (OfElement e) = IsJoined s g c × IsFirstUntold c s.elements e
FailsFirst s g c (Line e) = IsComplete s g c × IsFirstOff c (everything g) (spotted.Line e)
FailsFirst s g c (Con k) = IsComplete s g c × IsFirstOff c (everything g) (spotted.Con k)
FailsFirst s g c (Sign n) = IsMet s g c × IsFirstTurned s g c n

-- the same of an error, unless memory ran out
abbrev pub IsFirstFailure : Sketch → Graph → Claim → VerifyError → Type 0
IsFirstFailure s g c (Fails f) = FailsFirst s g c f
IsFirstFailure s g c NoMemory = ⊤
