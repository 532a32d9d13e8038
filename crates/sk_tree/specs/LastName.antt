-- The name of the cluster that a plan leads to.
use Rattle.std.specs.Prelude.{◌-◌, Option, length, slice_get}
use Rattle.std.specs.Option.{option_map, option_or}
use Rattle.sk_base.specs.declared.ConId.{ConId}
use Rattle.sk_base.specs.declared.Name.{Name}
use Rattle.sk_base.specs.declared.Name.TheVariants.{Con}
use Rattle.sk_tree.specs.declared.plan.Plan.{Plan}
use Rattle.sk_tree.specs.declared.plan.PlanStep.{PlanStep}

-- the last step's name; without a step that of the first constraint
abbrev pub last_name : Plan → Option Name
last_name p = option_or (option_map (λ (s : PlanStep). s.step) (slice_get p.steps (length p.steps - 1))) (option_map (λ (k : ConId). Con k.0) (slice_get p.leaves 0))
