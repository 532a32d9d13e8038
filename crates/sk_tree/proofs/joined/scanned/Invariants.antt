use Rattle.std.proofs.Common.{◌≡◌}
use Rattle.sk_base.proofs.Searches.{NoneBefore}
use Rattle.sk_rules.specs.declared.Taken.{Taken as Merging}
use Rattle.sk_tree.proofs.joined.scanned.Given as goal

abbrev pub invariant-loop-place : goal.invariant-loop-place
invariant-loop-place l = NoneBefore (λ (t : Merging). t.step ≡ l.name) l.taken l.place
