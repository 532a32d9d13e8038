-- A plan with some of its choices turned over is legal where the plan is.
use Rattle.std.proofs.Common.{Bool, true, false, cond, List, [], ◌∷◌, map}
use Rattle.sk_base.specs.declared.Elem.{Elem}
use Rattle.sk_base.specs.declared.Graph.{Graph}
use Rattle.sk_base.specs.declared.Name.{Name}
use Rattle.sk_base.specs.ClusterNames.{is_named}
use Rattle.sk_family.specs.Clusters.{Clusters, initial_clusters}
use Rattle.sk_tree.specs.declared.Choice.{Choice}
use Rattle.sk_tree.specs.declared.Choice.TheVariants.{Turn, Advance, Nothing}
use Rattle.sk_tree.specs.declared.Plan.{Plan}
use Rattle.sk_tree.specs.declared.PlanStep.{PlanStep}
use Rattle.sk_tree.specs.LegalPlan.{FitsKinds, IsLegalStep, AreLegalSteps, IsLegalPlan, next_after}
use Rattle.sk_flips.specs.Flipping.{turned, flipped_step, flipped}

-- a choice turned over fits the same kinds
turned_fits : (g : Graph) (a b c : Elem) (choice : Choice) → FitsKinds g a b c choice → FitsKinds g a b c (turned choice)
turned_fits g a b c (Turn sign) fits = fits
turned_fits g a b c (Advance sign) fits = fits
turned_fits g a b c Nothing fits = fits

chosen_fits : (g : Graph) (a b c : Elem) (choice : Choice) (flips : Bool) → FitsKinds g a b c choice → FitsKinds g a b c (cond flips (turned choice) choice)
chosen_fits g a b c choice true fits = turned_fits g a b c choice fits
chosen_fits g a b c choice false fits = fits

flipped_legal_step : (g : Graph) (f : Clusters) (names : List Name) (step : PlanStep) → IsLegalStep g f step → IsLegalStep g f (flipped_step names step)
flipped_legal_step g f names step legal = record {
  next = legal.next;
  falls = legal.falls;
  joins = legal.joins;
  keeps = legal.keeps;
  choice = chosen_fits g step.a step.b step.c step.choice (is_named names step.step) legal.choice;
}

flipped_steps_legal : (g : Graph) (f : Clusters) (names : List Name) (steps : List PlanStep) → AreLegalSteps g f steps → AreLegalSteps g f (map (flipped_step names) steps)
flipped_steps_legal g f names [] legal = legal
flipped_steps_legal g f names (step ∷ steps) legal =
    (flipped_legal_step g f names step legal.0, flipped_steps_legal g (next_after f step) names steps legal.1)

pub flipped_is_legal : (g : Graph) (names : List Name) (p : Plan) → IsLegalPlan g p → IsLegalPlan g (flipped names p)
flipped_is_legal g names p legal = record {
  leaves = legal.leaves;
  steps = flipped_steps_legal g (initial_clusters g) names p.steps legal.steps;
}
