use Rattle.std.proofs.Common.{◌≡◌, filter, take}
use Rattle.sk_excess.specs.LeftOut.{is_number}
use Rattle.sk_why.proofs.reasons.those_of.Given as goal

abbrev pub invariant-loop-number : goal.invariant-loop-number
invariant-loop-number l = l.those ≡ filter (is_number l.others) (take l.number-index l.numbers)
