-- The plan report.
use Rattle.std.specs.Prelude.{ℕ, List, [], ◌∷◌, ◌++◌, length, codes}
use Rattle.std.specs.List.{flat_map}
use Rattle.std.specs.Fmt.{decimal}
use Rattle.sk_base.specs.declared.ConId.{ConId}
use Rattle.sk_base.specs.declared.Sign.{Sign}
use Rattle.sk_base.specs.declared.Sign.TheVariants.{Plus, Minus}
use Rattle.sk_base.specs.declared.Sketch.{Sketch}
use Rattle.sk_entry.specs.NumberedConstraint.{constraint_words}
use Rattle.sk_tree.specs.declared.Choice.{Choice}
use Rattle.sk_tree.specs.declared.Choice.TheVariants.{Turn, Advance, Nothing}
use Rattle.sk_tree.specs.declared.PlanStep.{PlanStep}
use Rattle.sk_tree.specs.declared.Plan.{Plan}
use Rattle.sk_base.specs.ElementNames.{names_of}
use Rattle.sk_text.specs.ClusterName.{cluster_name}

abbrev pub leaf_line : Sketch → ConId → List ℕ
leaf_line s k = codes "leaf c" ++ (decimal k.0 ++ (codes " : " ++ (constraint_words s k ++ codes "\n")))

abbrev pub sign_text : Sign → List ℕ
sign_text Plus = codes "+"
sign_text Minus = codes "-"

abbrev pub choice_text : Choice → List ℕ
choice_text (Turn sign) = codes "turn " ++ sign_text sign
choice_text (Advance sign) = codes "advance " ++ sign_text sign
choice_text Nothing = codes "none"

-- the step, and the clusters that it joins
abbrev pub joins_words : PlanStep → List ℕ
joins_words x =
    codes "step " ++ (cluster_name x.step ++ (codes " joins " ++ (cluster_name x.one ++ (codes " " ++ (cluster_name x.two
    ++ (codes " " ++ (cluster_name x.three ++ codes " at")))))))

-- the cluster that is kept, and what the drawing chooses
abbrev pub keeps_words : PlanStep → List ℕ
keeps_words x = codes " keeps " ++ (cluster_name x.keeps ++ (codes " " ++ (choice_text x.choice ++ codes "\n")))

abbrev pub step_line : Sketch → PlanStep → List ℕ
step_line s x = (joins_words x ++ names_of s (x.a ∷ x.b ∷ x.c ∷ [])) ++ keeps_words x

-- three counts, a line each
abbrev pub plan_counts : Sketch → Plan → List ℕ
plan_counts s p =
    codes "elements " ++ (decimal (length s.elements) ++ (codes "\nconstraints " ++ (decimal (length s.constraints)
    ++ (codes "\nsteps " ++ (decimal (length p.steps) ++ codes "\n")))))

-- the plan report: the verdict, the counts, a line for each constraint, and one for each step
abbrev pub plan_report : Sketch → Plan → List ℕ
plan_report s p = ((codes "verdict well\n" ++ plan_counts s p) ++ flat_map (leaf_line s) p.leaves) ++ flat_map (step_line s) p.steps
