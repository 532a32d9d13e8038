use Rattle.std.proofs.Common.{length, ◌≡◌, ◌+◌, ◌-◌, ◌≤◌, ◌++◌, drop}
use Rattle.sk_base.specs.Rising.{union}
use Rattle.sk_family.proofs.union.union_of.Given as goal

-- what is made and the union of what is left are the whole union
abbrev pub invariant-loop-i : goal.invariant-loop-i
invariant-loop-i g l = record {
  xs_left : l.i ≤ length l.xs;
  ys_left : l.j ≤ length l.ys;
  made : l.all ++ union g.T.Numbered.number (drop l.i l.xs) (drop l.j l.ys) ≡ union g.T.Numbered.number l.xs l.ys;
}

abbrev pub decreases-loop-i : goal.decreases-loop-i
decreases-loop-i g l = (length l.xs + length l.ys) - (l.i + l.j)
