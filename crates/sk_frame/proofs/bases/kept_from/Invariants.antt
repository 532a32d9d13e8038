use Rattle.std.proofs.Common.{◌≡◌, drop}
use Rattle.sk_frame.specs.Bases.{kept_from}
use Rattle.sk_frame.proofs.bases.kept_from.Given as goal

abbrev pub invariant-loop-i : goal.invariant-loop-i
invariant-loop-i l = l.kept ≡ kept_from (drop l.i l.steps) l.fn.name
