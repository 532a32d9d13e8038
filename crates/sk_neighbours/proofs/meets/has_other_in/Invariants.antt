use Rattle.sk_neighbours.specs.Partners.{IsOther}
use Rattle.sk_base.specs.declared.Elem.{Elem}
use Rattle.sk_base.proofs.Searches.{NoneBefore}
use Rattle.sk_neighbours.proofs.meets.has_other_in.Given as goal

abbrev pub invariant-loop-elem : goal.invariant-loop-elem
invariant-loop-elem l = NoneBefore (λ (e : Elem). IsOther l.many l.a e) l.few l.elem-index
