use Rattle.std.proofs.Common.{◌≡◌, take}
use Rattle.std.specs.Prelude.{All}
use Rattle.sk_base.specs.Bounds.{IsWithin}
use Rattle.sk_dxf.specs.Neighbours.{neighbours_along}
use Rattle.sk_dxf.proofs.neighbours.neighbours_along.Given as goal

abbrev pub invariant-loop-constraint : goal.invariant-loop-constraint
invariant-loop-constraint l = record {
  value : l.places ≡ neighbours_along l.at l.e l.line (take l.constraint-index l.constraints);
  within : All (IsWithin 4611686018427387904) l.places;
}
