-- The base of a plan: the constraint that no step moves.
use Rattle.std.specs.Prelude.{List, [], ◌∷◌, Option, Some, None, if◌then◌else◌}
use Rattle.sk_base.specs.declared.ConId.{ConId}
use Rattle.sk_base.specs.declared.Name.{Name}
use Rattle.sk_base.specs.declared.Name.TheVariants.{Con, Step}
use Rattle.sk_base.specs.ClusterNames.{name_eq}
use Rattle.sk_tree.specs.LastName.{last_name}
use Rattle.sk_tree.specs.declared.Plan.{Plan}
use Rattle.sk_tree.specs.declared.PlanStep.{PlanStep}

-- the child that stays in its place in the cluster of that name, where it is the step's; else the cluster itself
abbrev pub kept_by : PlanStep → Name → Name
kept_by s n = if name_eq s.step n then s.keeps else n

-- where the kept children lead to from the cluster of that name, the latest step first
abbrev pub kept_from : List PlanStep → Name → Name
kept_from [] n = n
kept_from (s ∷ steps) n = kept_by s (kept_from steps n)

-- the constraint of that name
abbrev pub constraint_named : Name → Option ConId
constraint_named (Con k) = Some (record { 0 = k })
constraint_named (Step k) = None

abbrev pub base_in : List PlanStep → Option Name → Option ConId
base_in steps (Some n) = constraint_named (kept_from steps n)
base_in steps None = None

-- the constraint that the kept children lead to from the last step; a plan without a constraint has none
abbrev pub base_of : Plan → Option ConId
base_of p = base_in p.steps (last_name p)
