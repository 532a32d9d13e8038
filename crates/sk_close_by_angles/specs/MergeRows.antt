-- The merges of one cluster with some below it, told by their names.
use Rattle.std.specs.Prelude.{List, filter, map, not}
use Rattle.sk_base.specs.declared.Name.{Name}
use Rattle.sk_base.specs.ClusterNames.{is_named}
use Rattle.sk_family.specs.declared.Merge.{Merge}
use Rattle.sk_family.specs.declared.Merge.TheVariants.{Two}
use Rattle.sk_close_by_angles.specs.declared.pairs.Partners.{Partners}

-- the merges of the cluster with each of these
abbrev pub merges_with : Name → List Name → List Merge
merges_with x names = map (λ (n : Name). Two x n) names

abbrev pub merges_of : Partners → List Merge
merges_of p = merges_with p.greater p.lessers

-- the names that are none of these
abbrev pub names_but : List Name → List Name → List Name
names_but gone names = filter (λ (n : Name). not (is_named gone n)) names

-- the same partners but for these
abbrev pub without : List Name → Partners → Partners
without gone p = record { greater = p.greater; lessers = names_but gone p.lessers }
