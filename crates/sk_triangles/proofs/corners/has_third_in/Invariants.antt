use Rattle.std.specs.Prelude.{Contains}
use Rattle.sk_base.specs.declared.Elem.{Elem}
use Rattle.sk_base.proofs.Searches.{NoneBefore}
use Rattle.sk_triangles.specs.Marks.{IsThird}
use Rattle.sk_triangles.proofs.corners.has_third_in.Given as goal

abbrev pub invariant-loop-c : goal.invariant-loop-c
invariant-loop-c l = NoneBefore (λ (e : Elem). Contains l.many e × IsThird l.lines l.a l.b e) l.few l.c-index
