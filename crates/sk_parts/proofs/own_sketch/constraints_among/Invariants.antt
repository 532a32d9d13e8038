use Rattle.std.proofs.Common.{◌≡◌, filter, take}
use Rattle.sk_parts.specs.OwnSketch.{lies_among}
use Rattle.sk_parts.proofs.own_sketch.constraints_among.Given as goal

abbrev pub invariant-loop-constraint : goal.invariant-loop-constraint
invariant-loop-constraint l = l.own ≡ filter (lies_among l.numbers) (take l.constraint-index l.constraints)
