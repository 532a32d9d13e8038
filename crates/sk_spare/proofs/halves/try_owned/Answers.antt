use Rattle.std.proofs.Common.{◌≡◌, ◌⊎◌, false, List, [], length, ap, sym, subst, ◌∙◌, arith}
use Rattle.std.specs.Prelude.{Contains, ◌↔◌, map}
use Rattle.std.proofs.lemmas.List.{length-map}
use Rattle.sk_base.specs.declared.ConId.{ConId}
use Rattle.sk_base.specs.declared.Graph.{Graph}
use Rattle.sk_base.specs.SoundGraph.{IsSoundGraph}
use Rattle.sk_base.specs.Numbering.{con_number}
use Rattle.sk_base.specs.Rising.{IsRising}
use Rattle.sk_base.proofs.Searches.{refused, on_ok}
use Rattle.sk_family.specs.Body.{Body, initial_bodies}
use Rattle.sk_family.specs.Clusters.{Clusters, bodies, body_of}
use Rattle.sk_spare.specs.Sparing.{IsSpare}
use Rattle.sk_spare.specs.Halving.{IsBeside}
use Rattle.sk_spare.proofs.PutBack.{sound_none, starts_with_nothing, all_aside}
use Rattle.sk_spare.proofs.Deciding.{owned_constraints, owns_enough, none_of_enough, found_nothing}
use Rattle.sk_spare.proofs.halves.try_owned.Goals as goal

pub is_over-requires-clause-enough : goal.is_over-requires-clause-enough
is_over-requires-clause-enough c = (let (f, is) = c.requires.owner in owns_enough c.args.graph.now f c.requires.sound is.normal (body_of c.args.owner.now) is.in_family)

pub is_over-requires-clause-owned : goal.is_over-requires-clause-owned
is_over-requires-clause-owned c = (let (f, is) = c.requires.owner in owned_constraints c.args.graph.now f c.requires.sound is.normal (body_of c.args.owner.now) is.in_family)

pub returns-then-not-is_over : goal.returns-then-not-is_over
returns-then-not-is_over c =
    let (f, is) = c.requires.owner in
    found_nothing (λ k. IsSpare c.args.graph.now k) c.args.found.now c.args.owner.now.owned
    (none_of_enough c.args.graph.now f (body_of c.args.owner.now) c.requires.sound is (refused c.if-not-is_over.ensures.1))

pub initial-requires : goal.initial-requires
initial-requires c = subst (λ (g : Graph). IsSoundGraph g) (sym c.no_graph.ensures) sound_none

pub try_aside-requires-clause-rise : goal.try_aside-requires-clause-rise
try_aside-requires-clause-rise c =
    let (f, is) = c.requires.owner in
    subst (λ (ks : List ConId). IsRising con_number ks) (sym c.as_slice.ensures)
    (owned_constraints c.args.graph.now f c.requires.sound is.normal (body_of c.args.owner.now) is.in_family).rise

pub try_aside-requires-clause-owned : goal.try_aside-requires-clause-owned
try_aside-requires-clause-owned c k k_in = subst (λ (ks : List ConId). Contains ks k) c.as_slice.ensures k_in

pub try_aside-requires-clause-beside : goal.try_aside-requires-clause-beside
try_aside-requires-clause-beside c =
    let none : bodies c.in_ok-nothing.nothing ≡ [] = c.in_ok-nothing.ensures.bodies ∙ ap (λ (g : Graph). initial_bodies g) c.no_graph.ensures ∙ starts_with_nothing in (
      λ k. false,
      subst (λ (ks : List ConId). IsBeside c.args.graph.now c.args.owner.now.owned ks (λ k. false) (bodies c.in_ok-nothing.nothing)) (sym c.as_slice.ensures)
          (subst (λ (f : List Body). IsBeside c.args.graph.now c.args.owner.now.owned c.args.owner.now.owned (λ k. false) f) (sym none) (all_aside c.args.graph.now c.args.owner.now.owned)),
    )

pub try_aside-requires-clause-room : goal.try_aside-requires-clause-room
try_aside-requires-clause-room c =
    let (f, is) = c.requires.owner in
    let none : bodies c.in_ok-nothing.nothing ≡ [] = c.in_ok-nothing.ensures.bodies ∙ ap (λ (g : Graph). initial_bodies g) c.no_graph.ensures ∙ starts_with_nothing in
    let mapped : length (map body_of c.in_ok-nothing.nothing.live) ≡ length c.in_ok-nothing.nothing.live = rw length-map in
    let many = ap length none in
    let next = ap (λ (g : Clusters). g.next_step) c.in_ok-nothing.ensures.clusters in
    let few = (owned_constraints c.args.graph.now f c.requires.sound is.normal (body_of c.args.owner.now) is.in_family).few in
    let all = ap length c.as_slice.ensures in
    omega (arith, mapped, many, next, few, all)

pub returns : goal.returns
returns c =
    on_ok c.try_aside.result c.try_aside.ensures
    (λ h. subst (λ (ks : List ConId). (k : ConId) → Contains c.try_aside.new.found k ↔ (Contains c.args.found.now k ⊎ (Contains ks k × IsSpare c.args.graph.now k))) c.as_slice.ensures h)
