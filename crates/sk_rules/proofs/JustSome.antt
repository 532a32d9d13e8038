-- The graph with just some of its constraints: what it holds, and that it is sound.
use Rattle.std.proofs.Common.{◌≡◌, inl, inr, ◌<◌, ◌≤◌, Bool, true, List, length, refl, ap, sym, subst, ◌∙◌, arith}
use Rattle.std.specs.Prelude.{Contains, ◌↔◌, filter, not}
use Rattle.std.proofs.lemmas.List.Filters.{length-filter_both}
use Rattle.sk_base.specs.declared.ConId.{ConId}
use Rattle.sk_base.specs.declared.Edge.{Edge}
use Rattle.sk_base.specs.declared.Block.{Block}
use Rattle.sk_base.specs.declared.Graph.{Graph}
use Rattle.sk_base.specs.declared.Measure.TheVariants.{PointPoint, PointLine, LineLine}
use Rattle.sk_base.specs.declared.Measure.{Measure}
use Rattle.sk_base.specs.declared.Elem.{Elem}
use Rattle.sk_base.specs.SoundGraph.{IsSoundGraph, Measures}
use Rattle.sk_base.proofs.Filters.{filter_keeps}
use Rattle.sk_base.proofs.Members.{contains_filtered, filtered_from}
use Rattle.sk_base.proofs.Pairs.{pairs_filter, pairs_same}
use Rattle.sk_family.specs.Body.{Start, start_number, starts}
use Rattle.sk_family.proofs.GraphStarts.{start_comes, edge_starts, block_starts, starts_rise}
use Rattle.sk_rules.specs.JustSome.{with_just}

-- where all pass, it is the graph
pub all_pass : (g : Graph) → with_just (λ k. true) g ≡ g
all_pass g =
    ap (λ (es : List Edge). let h : Graph = record { nodes = g.nodes; edges = es; blocks = filter (λ (b : Block). true) g.blocks } in h) (filter_keeps (λ (e : Edge). true) g.edges (λ e h. refl))
    ∙ ap (λ (bs : List Block). let h : Graph = record { nodes = g.nodes; edges = g.edges; blocks = bs } in h) (filter_keeps (λ (b : Block). true) g.blocks (λ b h. refl))

-- with some of its constraints a graph is sound
measures_stay : (g : Graph) (p : ConId → Bool) (u v : Elem) (m : Measure) → Measures g u v m → Measures (with_just p g) u v m
measures_stay g p u v (PointPoint len) h = h
measures_stay g p u v (PointLine len side) h = h
measures_stay g p u v (LineLine ratio sense) h = h

no_longer_filtered : {X : Type 0} (p : X → Bool) (xs : List X) → length (filter p xs) ≤ length xs
no_longer_filtered p xs = (let size = length-filter_both p (λ x. not (p x)) (λ x. refl) xs in omega arith)

pub sound_part : (g : Graph) (p : ConId → Bool) → IsSoundGraph g → IsSoundGraph (with_just p g)
sound_part g p sound = record {
  nodes_rise = sound.nodes_rise;
  edges_rise = pairs_filter (λ (d e : Edge). d.id.0 < e.id.0) (λ (e : Edge). p e.id) g.edges sound.edges_rise;
  blocks_rise = pairs_filter (λ (b c : Block). b.id.0 < c.id.0) (λ (b : Block). p b.id) g.blocks sound.blocks_rise;
  blocks_apart = λ e b e_in b_in. sound.blocks_apart e b (filtered_from (λ (d : Edge). p d.id) g.edges e e_in).0 (filtered_from (λ (c : Block). p c.id) g.blocks b b_in).0;
  few_nodes = sound.few_nodes;
  few_constraints = (
      let few = sound.few_constraints in
      let edges = no_longer_filtered (λ (e : Edge). p e.id) g.edges in
      let blocks = no_longer_filtered (λ (b : Block). p b.id) g.blocks in
      omega arith);
  two_ends = λ e e_in. sound.two_ends e (filtered_from (λ (d : Edge). p d.id) g.edges e e_in).0;
  edges_measure = λ e e_in. measures_stay g p e.u e.v e.measure (sound.edges_measure e (filtered_from (λ (d : Edge). p d.id) g.edges e e_in).0);
  blocks_sound = λ b b_in. (
      let was = sound.blocks_sound b (filtered_from (λ (c : Block). p c.id) g.blocks b b_in).0 in
      record { pins = was.pins; at_points = was.at_points });
}

-- its constraints are those that pass, and start as they did
module _ (g : Graph) (p : ConId → Bool) (sound : IsSoundGraph g) where
  part_sound : IsSoundGraph (with_just p g)
  part_sound = sound_part g p sound

  from_part : (s : Start) → Contains (starts (with_just p g)) s → Contains (starts g) s × (p s.number ≡ true)
  from_part s h =
      elim (start_comes (with_just p g) s h) [
        | inl (b, b_in, is) ↦ (
            let was = filtered_from (λ (c : Block). p c.id) g.blocks b b_in in
            subst (λ (t : Start). Contains (starts g) t × (p t.number ≡ true)) is (block_starts g sound.blocks_rise sound.blocks_apart b was.0, was.1))
        | inr (e, e_in, is) ↦ (
            let was = filtered_from (λ (d : Edge). p d.id) g.edges e e_in in
            subst (λ (t : Start). Contains (starts g) t × (p t.number ≡ true)) is (edge_starts g e was.0, was.1))
      ]

  to_part : (s : Start) → Contains (starts g) s → p s.number ≡ true → Contains (starts (with_just p g)) s
  to_part s h passes =
      elim (start_comes g s h) [
        | inl (b, b_in, is) ↦ (
            let kept = contains_filtered (λ (c : Block). p c.id) g.blocks b b_in (subst (λ (t : Start). p t.number ≡ true) (sym is) passes) in
            subst (λ (t : Start). Contains (starts (with_just p g)) t) is (block_starts (with_just p g) part_sound.blocks_rise part_sound.blocks_apart b kept))
        | inr (e, e_in, is) ↦ (
            let kept = contains_filtered (λ (d : Edge). p d.id) g.edges e e_in (subst (λ (t : Start). p t.number ≡ true) (sym is) passes) in
            subst (λ (t : Start). Contains (starts (with_just p g)) t) is (edge_starts (with_just p g) e kept))
      ]

  pub starts_of_part : starts (with_just p g) ≡ filter (λ (s : Start). p s.number) (starts g)
  starts_of_part =
      pairs_same (λ (s t : Start). start_number s < start_number t) (λ s h. absurd (omega arith)) (λ s t one other. absurd (omega arith))
      (starts (with_just p g)) (filter (λ (s : Start). p s.number) (starts g))
      (starts_rise (with_just p g) part_sound.edges_rise)
      (pairs_filter (λ (s t : Start). start_number s < start_number t) (λ (s : Start). p s.number) (starts g) (starts_rise g sound.edges_rise))
      (λ s h. (let was = from_part s h in contains_filtered (λ (t : Start). p t.number) (starts g) s was.0 was.1))
      (λ s h. (let was = filtered_from (λ (t : Start). p t.number) (starts g) s h in to_part s was.0 was.1))

  pub in_part : (s : Start) → Contains (starts (with_just p g)) s ↔ (Contains (starts g) s × (p s.number ≡ true))
  in_part s = (from_part s, (λ h. to_part s h.0 h.1))
