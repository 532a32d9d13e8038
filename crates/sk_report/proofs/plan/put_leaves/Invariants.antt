use Rattle.std.proofs.Common.{◌≡◌, ◌++◌, take}
use Rattle.std.specs.List.{flat_map}
use Rattle.sk_report.specs.PlanReport.{leaf_line}
use Rattle.sk_report.proofs.plan.put_leaves.Given as goal

abbrev pub invariant-loop-leaf : goal.invariant-loop-leaf
invariant-loop-leaf l = l.text ≡ l.fn.text ++ flat_map (leaf_line l.s) (take l.leaf-index l.leaves)
