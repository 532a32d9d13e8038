use Rattle.std.specs.Prelude.{Contains}
use Rattle.sk_base.specs.declared.Elem.{Elem}
use Rattle.sk_base.proofs.Searches.{NoneBefore}
use Rattle.sk_neighbours.proofs.meets.has_two_in.Given as goal

abbrev pub invariant-loop-a : goal.invariant-loop-a
invariant-loop-a l = NoneBefore (λ (e : Elem). Contains l.many e) l.few l.a-index
