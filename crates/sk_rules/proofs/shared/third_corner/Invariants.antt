use Rattle.sk_base.specs.declared.Elem.{Elem}
use Rattle.sk_base.proofs.Searches.{NoneBefore}
use Rattle.sk_family.specs.Rules.{IsTriangle}
use Rattle.sk_rules.proofs.shared.third_corner.Given as goal

abbrev pub invariant-loop-c : goal.invariant-loop-c
invariant-loop-c l = NoneBefore (λ (e : Elem). IsTriangle l.graph l.xs l.ys l.zs l.a l.b e) l.zs l.c-index
