-- What the starting clusters own are the numbers of all constraints, without blocks of all edges.
use Rattle.std.proofs.Common.{◌≡◌, List, [], ◌∷◌, refl, ap, ◌∙◌}
use Rattle.std.specs.Prelude.{map}
use Rattle.std.specs.List.{flat_map}
use Rattle.sk_base.specs.declared.ConId.{ConId}
use Rattle.sk_base.specs.declared.Edge.{Edge}
use Rattle.sk_base.specs.declared.Graph.{Graph}
use Rattle.sk_family.specs.declared.Cluster.{Cluster}
use Rattle.sk_family.specs.Body.{Start, edge_start, starts}
use Rattle.sk_family.specs.Clusters.{Clusters, start_of, initial_clusters}
use Rattle.sk_family.proofs.GraphStarts.{edges_alone}
use Rattle.sk_tree.specs.LegalPlan.{numbers_of}

owned_by_starts : (ss : List Start) → flat_map (λ (c : Cluster). c.owned) (map start_of ss) ≡ map (λ (s : Start). s.number) ss
owned_by_starts [] = refl
owned_by_starts (s ∷ ss) = ap (λ (ks : List ConId). s.number ∷ ks) (owned_by_starts ss)

pub owned_numbers : (g : Graph) (f : Clusters) (live : List Cluster) → f ≡ initial_clusters g → live ≡ f.live → flat_map (λ (c : Cluster). c.owned) live ≡ numbers_of g
owned_numbers g f live is lives =
    ap (λ (cs : List Cluster). flat_map (λ (c : Cluster). c.owned) cs) (lives ∙ ap (λ (h : Clusters). h.live) is) ∙ owned_by_starts (starts g)

numbers_of_edges : (es : List Edge) → map (λ (s : Start). s.number) (map edge_start es) ≡ map (λ (e : Edge). e.id) es
numbers_of_edges [] = refl
numbers_of_edges (e ∷ es) = ap (λ (ks : List ConId). e.id ∷ ks) (numbers_of_edges es)

pub edge_numbers : (g : Graph) → g.blocks ≡ [] → numbers_of g ≡ map (λ (e : Edge). e.id) g.edges
edge_numbers g no_blocks = ap (map (λ (s : Start). s.number)) (edges_alone g no_blocks) ∙ numbers_of_edges g.edges
