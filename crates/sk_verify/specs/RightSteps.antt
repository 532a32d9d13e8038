-- The steps of a claim, taken one after another.
use Rattle.std.specs.Prelude.{◌≡◌, ◌⊎◌, List, [], ◌∷◌}
use Rattle.sk_base.specs.declared.Name.{Name}
use Rattle.sk_base.specs.declared.Name.TheVariants.{Step}
use Rattle.sk_base.specs.declared.Graph.{Graph}
use Rattle.sk_base.specs.declared.Sketch.{Sketch}
use Rattle.sk_family.specs.Clusters.{Clusters}
use Rattle.sk_tree.specs.declared.PlanStep.{PlanStep}
use Rattle.sk_tree.specs.LegalPlan.{IsLegalStep, next_after}
use Rattle.sk_tree.specs.DrawnChoice.{HasDrawnChoice}

-- the family may take the step, and its choice is that of the drawing
pub record IsRightStep (s : Sketch) (g : Graph) (f : Clusters) (step : PlanStep) : Type 0 where
  pub legal : IsLegalStep g f step
  pub drawn : HasDrawnChoice s step

-- the family after the steps
abbrev pub after : Clusters → List PlanStep → Clusters
after f [] = f
after f (step ∷ steps) = after (next_after f step) steps

-- each step is right where those before it lead
abbrev pub AreRight : Sketch → Graph → Clusters → List PlanStep → Type 0
AreRight s g f [] = Unit {0}
AreRight s g f (step ∷ steps) = IsRightStep s g f step × AreRight s g (next_after f step) steps

-- the first step that isn't right stands where the step of that name should; whatever it calls itself
abbrev pub IsFirstWrong : Sketch → Graph → Clusters → List PlanStep → Name → Type 0
IsFirstWrong s g f [] n = ⊥
IsFirstWrong s g f (step ∷ steps) n =
    ((n ≡ Step f.next_step) × ¬ IsRightStep s g f step) ⊎ (IsRightStep s g f step × IsFirstWrong s g (next_after f step) steps n)
