use Rattle.std.proofs.Common.{◌≡◌, filter, take}
use Rattle.sk_spare.specs.Numbers.{is_kept}
use Rattle.sk_spare.proofs.numbers.others_of.Given as goal

abbrev pub invariant-loop-number : goal.invariant-loop-number
invariant-loop-number l = l.kept ≡ filter (is_kept l.left) (take l.number-index l.numbers)
