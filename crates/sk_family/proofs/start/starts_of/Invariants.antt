use Rattle.std.proofs.Common.{◌≡◌, take}
use Rattle.sk_family.specs.Starting.{starts_but}
use Rattle.sk_family.proofs.start.starts_of.Given as goal

-- the numbers so far have their starts
abbrev pub invariant-loop-number : goal.invariant-loop-number
invariant-loop-number l = l.others.items ≡ starts_but l.graph l.without (take l.number-index l.numbers)
