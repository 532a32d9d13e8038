use Rattle.std.proofs.Common.{◌≡◌, ◌*◌, ◌≤◌, take}
use Rattle.std.specs.Prelude.{sum_by}
use Rattle.sk_base.specs.declared.ConId.{ConId}
use Rattle.sk_family.specs.Starting.{start_with}
use Rattle.sk_rules.specs.Excess.{weight}
use Rattle.sk_rules.proofs.weighing.weight_of.Given as goal

-- what the constraints so far weigh, one by one
abbrev pub invariant-loop-number : goal.invariant-loop-number
invariant-loop-number l = record {
  so_far : l.weight ≡ sum_by (λ (k : ConId). weight (start_with l.graph k)) (take l.number-index l.numbers);
  bounded : l.weight ≤ 29 * l.number-index;
}
