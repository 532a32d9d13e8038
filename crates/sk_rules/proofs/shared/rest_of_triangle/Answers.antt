use Rattle.sk_base.specs.declared.Elem.{Elem}
use Rattle.sk_base.specs.Numbering.{elem_number}
use Rattle.sk_base.proofs.Searches.{none_more, none_at_all, first_is_least}
use Rattle.sk_family.specs.Rules.{IsTriangle}
use Rattle.sk_rules.proofs.shared.rest_of_triangle.Goals as goal

pub returns-in-Some-clause-least_second : goal.returns-in-Some-clause-least_second
returns-in-Some-clause-least_second c q r h =
    first_is_least (λ (e : Elem). (r : Elem) × IsTriangle c.args.graph.now c.args.xs.now c.args.ys.now c.args.zs.now c.args.a e r)
    c.args.ys.now c.loop-b.b-index c.loop-b.invariant elem_number c.requires.ys_rise _ c.loop-b-test.true q h.b_shared.0 (r, h)

pub loop-b-preserved : goal.loop-b-preserved
loop-b-preserved c =
    none_more (λ (e : Elem). (r : Elem) × IsTriangle c.args.graph.now c.args.xs.now c.args.ys.now c.args.zs.now c.args.a e r)
    c.args.ys.now c.loop-b.b-index c.loop-b.invariant (record { 0 = 0 }) c.loop-b-test.true (λ (r, h). c.in_default.ensures.none r h)

pub returns-clause-none : goal.returns-clause-none
returns-clause-none c q r h =
    none_at_all (λ (e : Elem). (r : Elem) × IsTriangle c.args.graph.now c.args.xs.now c.args.ys.now c.args.zs.now c.args.a e r)
    c.args.ys.now c.loop-b.b-index c.loop-b.invariant c.loop-b-test.false q h.b_shared.0 (r, h)
