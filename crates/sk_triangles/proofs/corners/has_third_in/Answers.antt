use Rattle.std.specs.Prelude.{Contains}
use Rattle.sk_base.specs.declared.Elem.{Elem}
use Rattle.sk_base.proofs.Searches.{none_more, none_at_all, refused}
use Rattle.sk_triangles.specs.Marks.{IsThird}
use Rattle.sk_triangles.proofs.corners.has_third_in.Goals as goal

pub loop-c-preserved : goal.loop-c-preserved
loop-c-preserved c =
    none_more (λ (e : Elem). Contains c.args.many.now e × IsThird c.args.lines.now c.args.a c.args.b e) c.args.few.now c.loop-c.c-index c.loop-c.invariant
    (record { 0 = 0 }) c.loop-c-test.true (refused c.if-is_third_among.ensures.1)

pub returns : goal.returns
returns c =
    ((λ h. absurd (cc)), (λ (e, e_in, e_many, third). absurd (none_at_all (λ (e : Elem). Contains c.args.many.now e × IsThird c.args.lines.now c.args.a c.args.b e) c.args.few.now c.loop-c.c-index c.loop-c.invariant c.loop-c-test.false e e_in (e_many, third))))
