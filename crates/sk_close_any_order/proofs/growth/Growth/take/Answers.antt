use Rattle.std.proofs.Common.{◌≡◌, ◌∙◌, [], ◌∷◌, List, ap, sym, subst, inl, inr}
use Rattle.std.specs.Prelude.{◌↔◌, Contains}
use Rattle.sk_base.specs.declared.Elem.{Elem}
use Rattle.sk_base.specs.declared.Name.{Name}
use Rattle.sk_base.proofs.Members.{contains_head, contains_one}
use Rattle.sk_family.specs.declared.Cluster.{Cluster}
use Rattle.sk_family.proofs.Naming.{one_of_name}
use Rattle.sk_family.proofs.Outcomes.{both_on_ok}
use Rattle.sk_neighbours.specs.Indexed.{IsHeld}
use Rattle.sk_close_any_order.specs.Grown.{HasGrown}
use Rattle.sk_close_any_order.proofs.TakingIn.{has_more, not_taken}
use Rattle.sk_close_any_order.proofs.growth.Growth.take.Goals as goal
use Rattle.sk_close_any_order.proofs.growth.Growth.take.Goals.{In-Some, After-take_out}

-- a held cluster of that name is the one that is taken in
alone : (c : In-Some) → (x : Cluster) → IsHeld c.args.index.now x → x.name ≡ c.args.name → x ≡ c.in-Some.cluster.now
alone c x held named =
    one_of_name c.args.family.now c.requires.sound c.args.name x c.in-Some.cluster.now
    (record {
      lives = (not_taken c.args.index.now c.args.graph.now c.args.family.now c.requires.sound c.args.self.now.names c.args.self.now.marks.items c.requires.grown x held).0;
      has_name = named;
    }) c.in-Some.ensures.some

pub take_out-requires-clause-alone : goal.take_out-requires-clause-alone
take_out-requires-clause-alone c x held named = alone (goal.at.take_out-requires-clause-alone c).In-Some x held (named ∙ c.in-Some.ensures.some.has_name)

held_without : (c : After-take_out) → ((x : Cluster) → IsHeld c.args.index.now x → x.name ≡ c.args.name → x ≡ c.in-Some.cluster.now) → (x : Cluster)
    → IsHeld c.take_out.new.self x ↔ (IsHeld c.args.index.now x × ¬ Contains (c.args.name ∷ []) x.name)
held_without c one x =
    let taken = c.take_out.ensures.held x in (
      (λ h. ((taken.0 h).0, (λ among. (taken.0 h).1 (one x (taken.0 h).0 (sym (contains_one c.args.name x.name among)))))),
      (λ (was, other). taken.1 (
        was,
        (λ same.
            other (subst (λ n. Contains (c.args.name ∷ []) n) (sym (ap (λ (y : Cluster). y.name) same ∙ c.in-Some.ensures.some.has_name)) (contains_head c.args.name []))),
      )),
    )

pub returns-clause-grown : goal.returns-clause-grown
returns-clause-grown c =
    let old = c.args.self.now in
    both_on_ok c.add_all.result c.add_all.ensures.names c.add_all.ensures.marks (λ names marked.
    subst (λ (ns : List Name). HasGrown c.take_out.new.self c.args.graph.now c.args.family.now ns c.add_all.new.self.marks.items) (sym (names ∙ c.in_ok-push-in-Some.ensures.ok))
    (has_more c.args.index.now c.args.graph.now c.args.family.now c.requires.sound old.names old.marks.items c.requires.grown
    c.take_out.new.self c.args.name c.in-Some.cluster.now c.in-Some.ensures.some c.requires.apart c.take_out.ensures.index (held_without (goal.at.returns-clause-grown c).After-take_out (alone (goal.at.returns-clause-grown c).In-Some)) c.take_out.ensures.lines
    c.add_all.new.self.marks.items
    (λ e. (
      (λ h. elim ((marked e).0 h) [ inl was ↦ inl was | inr here ↦ inr (subst (λ (l : List Elem). Contains l e) c.as_slice.ensures here) ]),
      (λ h. (marked e).1 (elim h [ inl was ↦ inl was | inr here ↦ inr (subst (λ (l : List Elem). Contains l e) (sym c.as_slice.ensures) here) ])),
    ))))
