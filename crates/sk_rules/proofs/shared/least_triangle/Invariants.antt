use Rattle.sk_base.specs.declared.Elem.{Elem}
use Rattle.sk_base.proofs.Searches.{NoneBefore}
use Rattle.sk_family.specs.Rules.{IsTriangle}
use Rattle.sk_rules.proofs.shared.least_triangle.Given as goal

abbrev pub invariant-loop-a : goal.invariant-loop-a
invariant-loop-a l = NoneBefore (λ (e : Elem). (q : Elem) × (r : Elem) × IsTriangle l.graph l.xs l.ys l.zs e q r) l.xs l.a-index
