use Rattle.std.proofs.Common.{◌≡◌, ◌*◌, take}
use Rattle.sk_base.specs.Bounds.{IsWithin}
use Rattle.sk_report.specs.GrowReport.{x_sum, y_sum}
use Rattle.sk_report.proofs.grow.sums.Given as goal

abbrev pub invariant-loop-spot : goal.invariant-loop-spot
invariant-loop-spot l = record {
  x_is : l.sums.x ≡ x_sum (take l.spot-index l.spots);
  y_is : l.sums.y ≡ y_sum (take l.spot-index l.spots);
  x_within : IsWithin (9223372036854775808 * l.spot-index) l.sums.x;
  y_within : IsWithin (9223372036854775808 * l.spot-index) l.sums.y;
}
