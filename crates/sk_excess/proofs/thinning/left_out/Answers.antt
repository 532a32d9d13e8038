use Rattle.std.proofs.Common.{◌≡◌, Bool, true, List, [], length, ap, sym, subst, ◌∙◌, arith}
use Rattle.std.specs.Prelude.{Contains, map}
use Rattle.std.proofs.lemmas.List.{length-map}
use Rattle.std.proofs.lemmas.List.Elements.{Contains-get_or}
use Rattle.std.proofs.lemmas.Result.{IfOk-weaker}
use Rattle.sk_base.specs.declared.ConId.{ConId}
use Rattle.sk_base.specs.declared.Graph.{Graph}
use Rattle.sk_base.specs.Numbering.{con_number}
use Rattle.sk_base.specs.Rising.{IsRising}
use Rattle.sk_family.specs.declared.Cluster.{Cluster}
use Rattle.sk_family.specs.Body.{Body, initial_bodies}
use Rattle.sk_family.specs.Clusters.{Clusters, bodies, body_of}
use Rattle.sk_rules.specs.JustSome.{with_just}
use Rattle.sk_spare.proofs.PutBack.{starts_with_nothing}
use Rattle.sk_excess.specs.LeftOut.{AreLeftOut}
use Rattle.sk_excess.specs.Thinning.{AreLeftOutOf, IsWithout}
use Rattle.sk_excess.proofs.Searching.{owned_rise, whole_many, first_is, none_first, few_owned, at_first, found_in}
use Rattle.sk_excess.proofs.thinning.left_out.Goals as goal
use Rattle.sk_excess.proofs.thinning.left_out.Goals.{After-whole-item}

pub unreachable-requires : goal.unreachable-requires
unreachable-requires c =
    none_first c.args.graph.now c.requires.sound c.requires.one c.in_ok-family.family c.in_ok-family.ensures c.clusters.result.now c.clusters.ensures.live c.in-empty.len_below

-- the first cluster is the whole
first : (c : After-whole-item) → c.requires.one.whole ≡ body_of c.whole-item.result
first c =
    first_is c.args.graph.now c.requires.sound c.requires.one c.in_ok-family.family c.in_ok-family.ensures c.clusters.result.now c.clusters.ensures.live c.whole-item.result
    (subst (λ (d : Cluster). Contains c.clusters.result.now d) (sym c.whole-item.is)
    (Contains-get_or c.clusters.result.now 0 c.whole-item.result (omega (arith, c.in-len1-up.len_at_least))))

pub left_of-requires-clause-size : goal.left_of-requires-clause-size
left_of-requires-clause-size c =
    ap (λ (z : Body). length z.elements) (sym (first ((goal.at.left_of-requires-clause-size c).After-whole-item)))
    ∙ whole_many c.args.graph.now c.requires.sound c.requires.one

pub left_of-requires-clause-rise : goal.left_of-requires-clause-rise
left_of-requires-clause-rise c =
    let owned = c.as_slice.ensures ∙ ap (λ (z : Body). z.owned) (sym (first ((goal.at.left_of-requires-clause-rise c).After-whole-item))) in
    subst (λ (ks : List ConId). IsRising con_number ks) (sym owned) (owned_rise c.args.graph.now c.requires.sound c.requires.one)

pub left_of-requires-clause-without : goal.left_of-requires-clause-without
left_of-requires-clause-without c =
    let owned = c.as_slice.ensures ∙ ap (λ (z : Body). z.owned) (sym (first ((goal.at.left_of-requires-clause-without c).After-whole-item))) in
    let none : bodies c.in_ok-nothing.nothing ≡ [] = c.in_ok-nothing.ensures.bodies ∙ ap (λ (g : Graph). initial_bodies g) c.no_graph.ensures ∙ starts_with_nothing in (
      λ k. true,
      at_first c.args.graph.now c.requires.sound c.requires.one c.as_slice.result.now (bodies c.in_ok-nothing.nothing) owned none,
    )

pub left_of-requires-clause-room : goal.left_of-requires-clause-room
left_of-requires-clause-room c =
    let owned = c.as_slice.ensures ∙ ap (λ (z : Body). z.owned) (sym (first ((goal.at.left_of-requires-clause-room c).After-whole-item))) in
    let none : bodies c.in_ok-nothing.nothing ≡ [] = c.in_ok-nothing.ensures.bodies ∙ ap (λ (g : Graph). initial_bodies g) c.no_graph.ensures ∙ starts_with_nothing in
    let mapped : length (map body_of c.in_ok-nothing.nothing.live) ≡ length c.in_ok-nothing.nothing.live = rw length-map in
    let many = ap length none in
    let next = ap (λ (g : Clusters). g.next_step) c.in_ok-nothing.ensures.clusters in
    let all = ap length owned in
    let few = few_owned c.args.graph.now c.requires.sound c.requires.one in
    omega (arith, mapped, many, next, all, few)

pub returns : goal.returns
returns c =
    let g = c.args.graph.now in
    let owned = c.as_slice.ensures ∙ ap (λ (z : Body). z.owned) (sym (first ((goal.at.returns c).After-whole-item))) in
    let none : bodies c.in_ok-nothing.nothing ≡ [] = c.in_ok-nothing.ensures.bodies ∙ ap (λ (h : Graph). initial_bodies h) c.no_graph.ensures ∙ starts_with_nothing in
    record {
      left_out = IfOk-weaker c.left_of.result
          (λ (left : List ConId). (p : ConId → Bool) → IsWithout g p c.as_slice.result.now (bodies c.in_ok-nothing.nothing) → AreLeftOutOf (with_just p g) c.as_slice.result.now left)
          (AreLeftOut g)
          (λ left told. found_in g c.requires.sound c.requires.one c.as_slice.result.now left owned
          (told (λ k. true) (at_first g c.requires.sound c.requires.one c.as_slice.result.now (bodies c.in_ok-nothing.nothing) owned none)))
          c.left_of.ensures;
    }
