-- The text of derived clusters.
use Rattle.std.specs.Prelude.{ℕ, ◌+◌, if◌then◌else◌, List, [], ◌∷◌, ◌++◌, length, map, fold, codes}
use Rattle.std.specs.Fmt.{decimal}
use Rattle.sk_base.specs.declared.Elem.{Elem}
use Rattle.sk_base.specs.declared.Sketch.{Sketch}
use Rattle.sk_base.specs.ElementOrder.{comes_before}
use Rattle.sk_base.specs.ElementNames.{names_of}
use Rattle.sk_family.specs.declared.Cluster.{Cluster}
use Rattle.sk_family.specs.Clusters.{Clusters}

-- these lists with one more, before the first that doesn't come before it
abbrev pub with_list : List (List Elem) → List Elem → List (List Elem)
with_list [] xs = xs ∷ []
with_list (ys ∷ lists) xs = if comes_before ys xs then ys ∷ with_list lists xs else xs ∷ ys ∷ lists

-- the lists of elements of these clusters, put in order one after another
abbrev pub lists_in_order : List Cluster → List (List Elem)
lists_in_order clusters = fold with_list [] (map (λ (c : Cluster). c.elements) clusters)

abbrev pub cluster_head : ℕ → List ℕ
cluster_head number = codes "cluster " ++ (decimal number ++ codes " :")

abbrev pub cluster_line : Sketch → ℕ → List Elem → List ℕ
cluster_line s number elements = (cluster_head number ++ names_of s elements) ++ 10 ∷ []

-- a line for each list, with numbers from this one on
abbrev pub cluster_lines : Sketch → ℕ → List (List Elem) → List ℕ
cluster_lines s number [] = []
cluster_lines s number (elements ∷ lists) = cluster_line s number elements ++ cluster_lines s (number + 1) lists

abbrev pub clusters_head : ℕ → List ℕ
clusters_head count = codes "clusters " ++ (decimal count ++ codes "\n")

-- the number of clusters, then a line for each
abbrev pub derived_text : Sketch → Clusters → List ℕ
derived_text s f = let lists = lists_in_order f.live in clusters_head (length lists) ++ cluster_lines s 1 lists
