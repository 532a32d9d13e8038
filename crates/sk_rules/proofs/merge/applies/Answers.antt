use Rattle.std.proofs.Common.{◌≡◌, List, subst, sym, ap, ◌∙◌}
use Rattle.sk_base.specs.declared.Elem.{Elem}
use Rattle.sk_base.specs.Numbering.{elem_number}
use Rattle.sk_family.specs.declared.Cluster.{Cluster}
use Rattle.sk_base.specs.Rising.{IsRising}
use Rattle.sk_family.proofs.Naming.{one_of_name}
use Rattle.sk_base.proofs.Searches.{if_none}
use Rattle.sk_family.specs.declared.Merge.{Merge}
use Rattle.sk_family.specs.declared.Merge.TheVariants.{Two, Three}
use Rattle.sk_family.specs.Rules.{SharesTwo, MeetsInThree}
use Rattle.sk_rules.specs.Merges.{Holds}
use Rattle.sk_rules.proofs.merge.applies.Goals as goal

pub least_pair-requires : goal.least_pair-requires
least_pair-requires c = (c.cluster.ensures.sound.bodies_rise c.in_ok-a-in-Two.a.now c.in_ok-a-in-Two.ensures.some.lives).elements

pub returns-in_err-first-in-Two-clause-none : goal.returns-in_err-first-in-Two-clause-none
returns-in_err-first-in-Two-clause-none c = if_none c.from_residual-in_err-first-in-Two.result (λ holds.
    never (subst (λ (m : Merge). Holds c.args.graph.now c.args.family.now m) c.in-Two.is holds))
  where
    never : Holds c.args.graph.now c.args.family.now (Two c.in-Two.x c.in-Two.y) → ⊥
    never (a, b, x_is, y_is, shares) =
        let f = c.args.family.now in
        let sound = c.cluster.ensures.sound in
        let a_same : a.elements ≡ c.in_ok-a-in-Two.a.now.elements = ap (λ (d : Cluster). d.elements) (one_of_name f sound c.in-Two.x a c.in_ok-a-in-Two.a.now x_is c.in_ok-a-in-Two.ensures.some) in
        let b_same : b.elements ≡ c.in_ok-b-in-Two.b.now.elements = ap (λ (d : Cluster). d.elements) (one_of_name f sound c.in-Two.y b c.in_ok-b-in-Two.b.now y_is c.in_ok-b-in-Two.ensures.some) in
        c.in_err-first-in-Two.ensures.none (subst (λ es. SharesTwo c.in_ok-a-in-Two.a.now.elements es) b_same (subst (λ es. SharesTwo es b.elements) a_same shares))

pub least_triangle-requires-clause-xs_rise : goal.least_triangle-requires-clause-xs_rise
least_triangle-requires-clause-xs_rise c =
    subst (λ (es : List Elem). IsRising elem_number es) (sym c.as_slice.ensures)
    (c.cluster-in-Three.ensures.sound.bodies_rise c.in_ok-a-in-Three.a.now c.in_ok-a-in-Three.ensures.some.lives).elements

pub least_triangle-requires-clause-ys_rise : goal.least_triangle-requires-clause-ys_rise
least_triangle-requires-clause-ys_rise c =
    subst (λ (es : List Elem). IsRising elem_number es) (sym c.as_slice-in-Three.ensures)
    (c.cluster-in-Three.ensures.sound.bodies_rise c.in_ok-b-in-Three.b.now c.in_ok-b-in-Three.ensures.some.lives).elements

pub least_triangle-requires-clause-zs_rise : goal.least_triangle-requires-clause-zs_rise
least_triangle-requires-clause-zs_rise c =
    subst (λ (es : List Elem). IsRising elem_number es) (sym c.as_slice-in-Three-2.ensures)
    (c.cluster-in-Three.ensures.sound.bodies_rise c.in_ok-c-in-Three.c.now c.in_ok-c-in-Three.ensures.some.lives).elements

pub returns-in_err-first-in-Three-clause-none : goal.returns-in_err-first-in-Three-clause-none
returns-in_err-first-in-Three-clause-none c = if_none c.from_residual-in_err-first-in-Three.result (λ holds.
    never (subst (λ (m : Merge). Holds c.args.graph.now c.args.family.now m) c.in-Three.is holds))
  where
    never : Holds c.args.graph.now c.args.family.now (Three c.in-Three.x c.in-Three.y c.in-Three.z) → ⊥
    never (p, q, r, x_is, y_is, z_is, meets) =
        let f = c.args.family.now in
        let g = c.args.graph.now in
        let sound = c.cluster-in-Three.ensures.sound in
        let p_same : p.elements ≡ c.as_slice.result.now =
        ap (λ (d : Cluster). d.elements) (one_of_name f sound c.in-Three.x p c.in_ok-a-in-Three.a.now x_is c.in_ok-a-in-Three.ensures.some) ∙ sym c.as_slice.ensures in
        let q_same : q.elements ≡ c.as_slice-in-Three.result.now =
        ap (λ (d : Cluster). d.elements) (one_of_name f sound c.in-Three.y q c.in_ok-b-in-Three.b.now y_is c.in_ok-b-in-Three.ensures.some) ∙ sym c.as_slice-in-Three.ensures in
        let r_same : r.elements ≡ c.as_slice-in-Three-2.result.now =
        ap (λ (d : Cluster). d.elements) (one_of_name f sound c.in-Three.z r c.in_ok-c-in-Three.c.now z_is c.in_ok-c-in-Three.ensures.some) ∙ sym c.as_slice-in-Three-2.ensures in
        c.in_err-first-in-Three.ensures.none
        (subst (λ es. MeetsInThree g c.as_slice.result.now c.as_slice-in-Three.result.now es) r_same
        (subst (λ es. MeetsInThree g c.as_slice.result.now es r.elements) q_same
        (subst (λ es. MeetsInThree g es q.elements r.elements) p_same meets)))
