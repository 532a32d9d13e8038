use Rattle.sk_base.specs.declared.Elem.{Elem}
use Rattle.sk_base.proofs.Searches.{NoneBefore}
use Rattle.sk_family.specs.Rules.{IsTriangle}
use Rattle.sk_rules.proofs.shared.rest_of_triangle.Given as goal

abbrev pub invariant-loop-b : goal.invariant-loop-b
invariant-loop-b l = NoneBefore (λ (e : Elem). (r : Elem) × IsTriangle l.graph l.xs l.ys l.zs l.a e r) l.ys l.b-index
