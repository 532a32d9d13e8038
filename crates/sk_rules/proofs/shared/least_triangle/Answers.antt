use Rattle.std.proofs.Common.{◌≤◌, inl, inr, subst, get_or, arith}
use Rattle.sk_base.specs.declared.Elem.{Elem}
use Rattle.sk_base.specs.Numbering.{elem_number}
use Rattle.sk_base.proofs.Searches.{none_more, none_at_all, first_is_least}
use Rattle.sk_family.specs.Rules.{IsTriangle}
use Rattle.sk_rules.proofs.shared.least_triangle.Goals as goal

pub returns-in-Some-clause-some : goal.returns-in-Some-clause-some
returns-in-Some-clause-some c = record {
  triangle = c.in-Some.ensures.triangle;
  least = λ p q r h before. (
      let a : Elem = get_or c.args.xs.now c.loop-a.a-index (record { 0 = 0 }) in
      let a_least : a.0 ≤ p.0 =
      first_is_least (λ (e : Elem). (q : Elem) × (r : Elem) × IsTriangle c.args.graph.now c.args.xs.now c.args.ys.now c.args.zs.now e q r)
      c.args.xs.now c.loop-a.a-index c.loop-a.invariant elem_number c.requires.xs_rise (record { 0 = 0 }) c.loop-a-test.true p h.a_shared.0 (q, r, h) in
      elim before [
        | inl less ↦ absurd (omega arith)
        | inr (p_is, later) ↦ (
            let at_a : IsTriangle c.args.graph.now c.args.xs.now c.args.ys.now c.args.zs.now a q r =
            subst (λ (e : Elem). IsTriangle c.args.graph.now c.args.xs.now c.args.ys.now c.args.zs.now e q r) p_is h in
            let b_least = c.in-Some.ensures.least_second q r at_a in
            elim later [
              | inl less ↦ absurd (omega arith)
              | inr (q_is, less) ↦ (
                  let c_least = c.in-Some.ensures.least_third r
                  (subst (λ (e : Elem). IsTriangle c.args.graph.now c.args.xs.now c.args.ys.now c.args.zs.now a e r) q_is at_a) in
                  absurd (omega arith))
            ])
      ]);
}

pub loop-a-preserved : goal.loop-a-preserved
loop-a-preserved c =
    none_more (λ (e : Elem). (q : Elem) × (r : Elem) × IsTriangle c.args.graph.now c.args.xs.now c.args.ys.now c.args.zs.now e q r)
    c.args.xs.now c.loop-a.a-index c.loop-a.invariant (record { 0 = 0 }) c.loop-a-test.true (λ (q, r, h). c.in_default.ensures.none q r h)

pub returns-clause-none : goal.returns-clause-none
returns-clause-none c =
    λ (p, q, r, h). none_at_all (λ (e : Elem). (q : Elem) × (r : Elem) × IsTriangle c.args.graph.now c.args.xs.now c.args.ys.now c.args.zs.now e q r)
    c.args.xs.now c.loop-a.a-index c.loop-a.invariant c.loop-a-test.false p h.a_shared.0 (q, r, h)
