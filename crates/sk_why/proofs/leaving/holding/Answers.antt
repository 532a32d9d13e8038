use Rattle.std.proofs.Common.{◌≡◌, List, [], length, ap, ◌∙◌, arith}
use Rattle.std.specs.Prelude.{map, filter}
use Rattle.std.proofs.lemmas.List.{length-map}
use Rattle.std.proofs.lemmas.Result.{IfOk-weaker}
use Rattle.sk_base.specs.declared.ConId.{ConId}
use Rattle.sk_base.specs.declared.Graph.{Graph}
use Rattle.sk_family.specs.Body.{initial_bodies}
use Rattle.sk_family.specs.Clusters.{Clusters, bodies, body_of}
use Rattle.sk_rules.specs.JustSome.{with_just}
use Rattle.sk_spare.proofs.PutBack.{starts_with_nothing}
use Rattle.sk_excess.specs.LeftOut.{is_number, is_kept}
use Rattle.sk_why.specs.Because.{AreBecause}
use Rattle.sk_excess.proofs.Halves.{constraints_aside}
use Rattle.sk_why.proofs.Halves.{at_first, in_the_end}
use Rattle.sk_why.proofs.leaving.holding.Goals as goal

pub gone_of-requires-clause-without : goal.gone_of-requires-clause-without
gone_of-requires-clause-without c =
    let none : bodies c.in_ok-nothing.nothing ≡ [] = c.in_ok-nothing.ensures.bodies ∙ ap (λ (g : Graph). initial_bodies g) c.no_graph.ensures ∙ starts_with_nothing in (
      is_number c.args.kept.now,
      at_first c.args.graph.now c.requires.sound c.args.elements.now c.args.kept.now c.requires.rise c.requires.there (bodies c.in_ok-nothing.nothing) none,
    )

pub gone_of-requires-clause-room : goal.gone_of-requires-clause-room
gone_of-requires-clause-room c =
    let none : bodies c.in_ok-nothing.nothing ≡ [] = c.in_ok-nothing.ensures.bodies ∙ ap (λ (g : Graph). initial_bodies g) c.no_graph.ensures ∙ starts_with_nothing in
    let mapped : length (map body_of c.in_ok-nothing.nothing.live) ≡ length c.in_ok-nothing.nothing.live = rw length-map in
    let many = ap length none in
    let next = ap (λ (g : Clusters). g.next_step) c.in_ok-nothing.ensures.clusters in
    let few = (constraints_aside c.args.graph.now c.requires.sound (is_number c.args.kept.now) c.args.kept.now c.requires.rise (bodies c.in_ok-nothing.nothing)
    (at_first c.args.graph.now c.requires.sound c.args.elements.now c.args.kept.now c.requires.rise c.requires.there (bodies c.in_ok-nothing.nothing) none)).few in
    omega (arith, mapped, many, next, few)

pub returns : goal.returns
returns c =
    let g = c.args.graph.now in
    let es = c.args.elements.now in
    let kept = c.args.kept.now in
    let none : bodies c.in_ok-nothing.nothing ≡ [] = c.in_ok-nothing.ensures.bodies ∙ ap (λ (h : Graph). initial_bodies h) c.no_graph.ensures ∙ starts_with_nothing in
    IfOk-weaker c.others_of.result (λ (because : List ConId). because ≡ filter (is_kept c.as_slice.result.now) kept) (AreBecause (with_just (is_number kept) g) es)
    (λ because is. in_the_end g c.requires.sound es kept c.requires.rise c.requires.there c.in_ok-gone.gone because
    (c.in_ok-gone.ensures (is_number kept) (at_first g c.requires.sound es kept c.requires.rise c.requires.there (bodies c.in_ok-nothing.nothing) none))
    (is ∙ ap (λ (ks : List ConId). filter (is_kept ks) kept) c.as_slice.ensures))
    c.others_of.ensures
