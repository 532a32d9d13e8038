-- The clusters in which a graph's constraints start, sorted.
use Rattle.std.proofs.Common.{◌≡◌, inl, inr, List, ◌++◌, ap, sym, subst, ◌∙◌}
use Rattle.std.specs.Prelude.{Contains, AllPairs, map}
use Rattle.std.specs.List.Sorted.{IsPermutation}
use Rattle.std.proofs.lemmas.List.Elements.{Contains-append_left, Contains-append_right, Contains-append_cases}
use Rattle.std.proofs.lemmas.List.Sorted.{Contains-permutation, IsPermutation-sym}
use Rattle.sk_base.specs.declared.Edge.{Edge}
use Rattle.sk_base.specs.declared.Block.{Block}
use Rattle.sk_base.specs.declared.Graph.{Graph}
use Rattle.sk_base.specs.declared.Name.TheVariants.{Con}
use Rattle.sk_base.specs.SoundGraph.{IsSoundGraph}
use Rattle.sk_base.specs.Numbering.{con_exact}
use Rattle.sk_base.proofs.Members.{contains_mapped, mapped_from}
use Rattle.sk_base.proofs.Pairs.{pairs_map, pairs_same, pairs_weaken}
use Rattle.sk_base.proofs.Splits.{pairs_append}
use Rattle.sk_family.specs.declared.cluster.Cluster.{Cluster}
use Rattle.sk_family.specs.Body.{edge_start, block_start, starts}
use Rattle.sk_family.specs.Clusters.{ByName, start_of}
use Rattle.sk_family.proofs.GraphStarts.{starts_rise, start_comes, edge_starts, block_starts}
use Rattle.sk_family.proofs.Naming.{below_differs, below_irreflexive, below_asymmetric}
use Rattle.sk_family.proofs.Soundness.{con_inside}
use Rattle.sk_family.proofs.Sorting.{HaveOtherNames}

abbrev pub edge_cluster : Edge → Cluster
edge_cluster e = start_of (edge_start e)

abbrev pub block_cluster : Block → Cluster
block_cluster b = start_of (block_start b)

-- those of the edges, and behind them those of the blocks
abbrev pub made : Graph → List Cluster
made g = map edge_cluster g.edges ++ map block_cluster g.blocks

differ_by_name : (xs : List Cluster) → AllPairs ByName xs → AllPairs HaveOtherNames xs
differ_by_name xs rise = pairs_weaken ByName HaveOtherNames xs rise (λ a b a_in b_in below. below_differs a.name b.name below)

module _ (g : Graph) (sound : IsSoundGraph g) where
  pub made_differ : AllPairs HaveOtherNames (made g)
  made_differ =
      pairs_append HaveOtherNames (map edge_cluster g.edges) (map block_cluster g.blocks)
      (differ_by_name (map edge_cluster g.edges) (pairs_map ByName edge_cluster g.edges sound.edges_rise))
      (differ_by_name (map block_cluster g.blocks) (pairs_map ByName block_cluster g.blocks sound.blocks_rise))
      (λ x y x_in y_in same. (
      let edge = mapped_from edge_cluster g.edges x x_in in
      let block = mapped_from block_cluster g.blocks y y_in in
      let names : Con edge.0.id.0 ≡ Con block.0.id.0 = ap (λ (c : Cluster). c.name) edge.2 ∙ same ∙ sym (ap (λ (c : Cluster). c.name) block.2) in
      sound.blocks_apart edge.0 block.0 edge.1 block.1 (con_exact edge.0.id block.0.id (con_inside edge.0.id.0 block.0.id.0 names))))

  made_starts : (c : Cluster) → Contains (made g) c → Contains (map start_of (starts g)) c
  made_starts c c_in =
      elim (Contains-append_cases (map edge_cluster g.edges) (map block_cluster g.blocks) c c_in) [
        | inl left ↦ (
            let edge = mapped_from edge_cluster g.edges c left in
            subst (λ z. Contains (map start_of (starts g)) z) edge.2 (contains_mapped start_of (starts g) (edge_start edge.0) (edge_starts g edge.0 edge.1)))
        | inr right ↦ (
            let block = mapped_from block_cluster g.blocks c right in
            subst (λ z. Contains (map start_of (starts g)) z) block.2
            (contains_mapped start_of (starts g) (block_start block.0) (block_starts g sound.blocks_rise sound.blocks_apart block.0 block.1)))
      ]

  starts_made : (c : Cluster) → Contains (map start_of (starts g)) c → Contains (made g) c
  starts_made c c_in =
      let found = mapped_from start_of (starts g) c c_in in
      subst (λ z. Contains (made g) z) found.2 (elim (start_comes g found.0 found.1) [
        | inl (b, b_in, is) ↦ subst (λ s. Contains (made g) (start_of s)) is
            (Contains-append_right (map edge_cluster g.edges) (map block_cluster g.blocks) (block_cluster b) (contains_mapped block_cluster g.blocks b b_in))
        | inr (e, e_in, is) ↦ subst (λ s. Contains (made g) (start_of s)) is
            (Contains-append_left (map edge_cluster g.edges) (map block_cluster g.blocks) (edge_cluster e) (contains_mapped edge_cluster g.edges e e_in))
      ])

  pub made_sorted : (sorted : List Cluster) → IsPermutation (made g) sorted → AllPairs ByName sorted → sorted ≡ map start_of (starts g)
  made_sorted sorted same rise =
      pairs_same ByName (λ c. below_irreflexive c.name) (λ a b. below_asymmetric a.name b.name) sorted (map start_of (starts g))
      rise (pairs_map ByName start_of (starts g) (starts_rise g sound.edges_rise))
      (λ c c_in. made_starts c (Contains-permutation sorted (made g) c (IsPermutation-sym (made g) sorted same) c_in))
      (λ c c_in. Contains-permutation (made g) sorted c same (starts_made c c_in))
