-- What a cluster is tried by without one of its constraints.
use Rattle.std.specs.Prelude.{Bool, ◌&&◌, List}
use Rattle.std.specs.List.{list_any, list_all}
use Rattle.sk_base.specs.declared.Elem.{Elem}
use Rattle.sk_base.specs.declared.ConId.{ConId}
use Rattle.sk_base.specs.declared.Graph.{Graph}
use Rattle.sk_family.specs.declared.Cluster.{Cluster}
use Rattle.sk_base.specs.Numbering.{is_elem}
use Rattle.sk_rules.specs.JustSome.{with_just}
use Rattle.sk_spare.specs.Numbers.{is_number}
use Rattle.sk_spare.specs.Sparing.{differs_from}

-- whether the constraint is one of these, and not the one of that number
abbrev pub is_other : List ConId → ConId → ConId → Bool
is_other owned k j = is_number owned j && differs_from k j

-- the graph of these constraints alone, but for one
abbrev pub trial_graph : List ConId → ConId → Graph → Graph
trial_graph owned k g = with_just (is_other owned k) g

-- whether all of these elements are held
abbrev pub holds_all : List Elem → List Elem → Bool
holds_all held elements = list_all (is_elem held) elements

-- whether one of the clusters holds all of them
abbrev pub some_holds : List Cluster → List Elem → Bool
some_holds clusters elements = list_any (λ (c : Cluster). holds_all c.elements elements) clusters
