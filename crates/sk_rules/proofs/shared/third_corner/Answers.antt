use Rattle.sk_base.specs.declared.Elem.{Elem}
use Rattle.sk_base.specs.Numbering.{elem_number}
use Rattle.sk_base.proofs.Searches.{none_more, first_is_least, refused}
use Rattle.sk_family.specs.Rules.{IsTriangle}
use Rattle.sk_rules.proofs.shared.third_corner.Goals as goal

pub returns-then-is_triangle-clause-least : goal.returns-then-is_triangle-clause-least
returns-then-is_triangle-clause-least c e h =
    first_is_least (λ (e : Elem). IsTriangle c.args.graph.now c.args.xs.now c.args.ys.now c.args.zs.now c.args.a c.args.b e) c.args.zs.now c.loop-c.c-index c.loop-c.invariant elem_number c.requires _ c.loop-c-test.true e h.c_shared.0 h

pub loop-c-preserved : goal.loop-c-preserved
loop-c-preserved c = none_more (λ (e : Elem). IsTriangle c.args.graph.now c.args.xs.now c.args.ys.now c.args.zs.now c.args.a c.args.b e) c.args.zs.now c.loop-c.c-index c.loop-c.invariant (record { 0 = 0 }) c.loop-c-test.true (refused c.if-is_triangle.ensures.1)
