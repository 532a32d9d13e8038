use Rattle.std.proofs.Common.{◌∙◌, List, ap, sym, subst, inl, inr}
use Rattle.std.specs.Prelude.{Contains}
use Rattle.sk_base.specs.declared.Name.{Name}
use Rattle.sk_family.specs.declared.Cluster.{Cluster}
use Rattle.sk_family.specs.Clusters.{Clusters, bodies, replaced}
use Rattle.sk_family.specs.Joining.{CanBeJoined}
use Rattle.sk_rules.specs.Reach.{Reach, stays}
use Rattle.sk_neighbours.specs.Indexed.{IsLast}
use Rattle.sk_neighbours.proofs.Representing.{represents_entered, whole_is_greatest}
use Rattle.sk_close_any_order.proofs.any_order.take_in.Goals as goal

pub returns-in_err-growth-clause-reached : goal.returns-in_err-growth-clause-reached
returns-in_err-growth-clause-reached c = stays

pub returns-in_err-grow-clause-reached : goal.returns-in_err-grow-clause-reached
returns-in_err-grow-clause-reached c = stays

pub replace_all-requires-clause-from : goal.replace_all-requires-clause-from
replace_all-requires-clause-from c =
    let has = c.in_ok-grow.ensures.has in
    let can : CanBeJoined c.args.family.now c.grow.new.self.names = record { at_least_two = c.in_ok-grow.ensures.at_least_two; all_live = has.all_live; differ = has.differ } in
    subst (λ (ns : List Name). CanBeJoined c.args.family.now ns) (sym c.as_slice.ensures) can

pub returns-in_err-replace_all-clause-reached : goal.returns-in_err-replace_all-clause-reached
returns-in_err-replace_all-clause-reached c =
    subst (λ (h : Clusters). Reach c.args.graph.now (bodies c.args.family.now) (bodies h)) (sym c.in_err-replace_all.ensures.err) stays

pub put_last-requires-clause-greatest : goal.put_last-requires-clause-greatest
put_last-requires-clause-greatest c y x held last =
    whole_is_greatest c.grow.new.index c.args.graph.now c.args.family.now c.requires.sound c.grow.new.self.names c.in_ok-grow.ensures.has.represents
    c.replace_all.new.self (c.in_ok-replace_all.ensures.ok ∙ ap (λ (ns : List Name). replaced c.args.family.now ns) c.as_slice.ensures)
    y x held (subst (λ (l : List Cluster). IsLast l x) c.clusters.ensures.live last)

pub put_last-requires-clause-rise : goal.put_last-requires-clause-rise
put_last-requires-clause-rise c x x_in = (c.clusters.ensures.sound.bodies_rise x (subst (λ (l : List Cluster). Contains l x) c.clusters.ensures.live x_in)).elements

pub returns-in_err-put_last-clause-reached : goal.returns-in_err-put_last-clause-reached
returns-in_err-put_last-clause-reached c =
    subst (λ (h : Clusters). Reach c.args.graph.now (bodies c.args.family.now) (bodies h))
    (sym (c.in_ok-replace_all.ensures.ok ∙ ap (λ (ns : List Name). replaced c.args.family.now ns) c.as_slice.ensures)) c.in_ok-grow.ensures.reached

pub returns-clause-represents : goal.returns-clause-represents
returns-clause-represents c =
    represents_entered c.grow.new.index c.args.graph.now c.args.family.now c.requires.sound c.grow.new.self.names c.in_ok-grow.ensures.has.represents
    c.replace_all.new.self (c.in_ok-replace_all.ensures.ok ∙ ap (λ (ns : List Name). replaced c.args.family.now ns) c.as_slice.ensures) c.put_last.new.self c.in_ok-put_last.ensures.index
    (λ x. (
      (λ h. elim ((c.in_ok-put_last.ensures.held x).0 h) [ inl was ↦ inl was | inr last ↦ inr (subst (λ (l : List Cluster). IsLast l x) c.clusters.ensures.live last) ]),
      (λ h. (c.in_ok-put_last.ensures.held x).1 (elim h [ inl was ↦ inl was | inr last ↦ inr (subst (λ (l : List Cluster). IsLast l x) (sym c.clusters.ensures.live) last) ])),
    )) c.in_ok-put_last.ensures.lines

pub returns-clause-reached : goal.returns-clause-reached
returns-clause-reached c =
    subst (λ (h : Clusters). Reach c.args.graph.now (bodies c.args.family.now) (bodies h))
    (sym (c.in_ok-replace_all.ensures.ok ∙ ap (λ (ns : List Name). replaced c.args.family.now ns) c.as_slice.ensures)) c.in_ok-grow.ensures.reached
