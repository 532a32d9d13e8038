-- Triples, and merges that name none of some clusters.
use Rattle.std.specs.Prelude.{◌≡◌, ◌||◌, Bool, List, filter, not}
use Rattle.sk_base.specs.declared.Name.{Name}
use Rattle.sk_base.specs.ClusterNames.{is_named}
use Rattle.sk_family.specs.declared.Merge.{Merge}
use Rattle.sk_family.specs.declared.Merge.TheVariants.{Two, Three}

abbrev pub IsTriple : Merge → Type 0
IsTriple m = (x : Name) × (y : Name) × (z : Name) × (m ≡ Three x y z)

-- whether the merge names one of these
abbrev pub names_one_of : List Name → Merge → Bool
names_one_of gone (Two x y) = is_named gone x || is_named gone y
names_one_of gone (Three x y z) = is_named gone x || (is_named gone y || is_named gone z)

-- the merges that name none of these
abbrev pub avoiding : List Name → List Merge → List Merge
avoiding gone merges = filter (λ (m : Merge). not (names_one_of gone m)) merges
