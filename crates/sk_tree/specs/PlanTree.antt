-- The tree of a plan.
use Rattle.std.specs.Prelude.{◌≡◌, ◌⊎◌, List, [], ◌∷◌, ◌++◌, map}
use Rattle.sk_base.specs.declared.ConId.{ConId}
use Rattle.sk_rules.specs.declared.Taken.{Taken}
use Rattle.sk_tree.specs.declared.plan.Plan.{Plan}
use Rattle.sk_tree.specs.declared.plan.PlanStep.{PlanStep}
use Rattle.sk_tree.specs.declared.tree.Tree.{Tree}
use Rattle.sk_tree.specs.declared.tree.Tree.TheVariants.{Leaf}
use Rattle.sk_tree.specs.LegalPlan.{taken_told}
use Rattle.sk_tree.specs.Trees.{IsTreeOf}

-- the merges that the steps tell
abbrev pub merges_told : Plan → List Taken
merges_told p = map taken_told p.steps

-- the tree of the last step; where there is none, the leaf of the only constraint
abbrev pub IsPlanTree : Plan → Tree → Type 0
IsPlanTree p t =
    ((before : List PlanStep) × (last : PlanStep) × (p.steps ≡ before ++ last ∷ []) × IsTreeOf (merges_told p) last.step t)
    ⊎ ((k : ConId) × (p.steps ≡ []) × (p.leaves ≡ k ∷ []) × (t ≡ Leaf k))
