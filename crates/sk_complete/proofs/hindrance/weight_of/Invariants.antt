use Rattle.std.proofs.Common.{◌≡◌, ◌≤◌, ◌*◌, take}
use Rattle.sk_complete.specs.Weights.{weight_together}
use Rattle.sk_complete.proofs.hindrance.weight_of.Given as goal

abbrev pub invariant-loop-constraint : goal.invariant-loop-constraint
invariant-loop-constraint l = record { sum : l.weight ≡ weight_together (take l.constraint-index l.constraints); few : l.weight ≤ 29 * l.constraint-index }
