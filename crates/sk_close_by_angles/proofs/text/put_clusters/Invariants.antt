use Rattle.std.proofs.Common.{◌≡◌, ◌+◌, ◌++◌, drop}
use Rattle.sk_close_by_angles.specs.DerivedText.{cluster_lines}
use Rattle.sk_close_by_angles.proofs.text.put_clusters.Given as goal

abbrev pub invariant-loop-i : goal.invariant-loop-i
invariant-loop-i l = l.text ++ cluster_lines l.s (l.i + 1) (drop l.i l.lists) ≡ l.fn.text ++ cluster_lines l.s 1 l.lists
