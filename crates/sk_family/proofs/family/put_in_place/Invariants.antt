use Rattle.std.proofs.Common.{◌≡◌, ◌∷◌, [], ◌++◌, take}
use Rattle.std.specs.Prelude.{AllPairs}
use Rattle.sk_family.specs.Clusters.{ByName, unnamed}
use Rattle.sk_family.proofs.family.put_in_place.Given as goal

abbrev pub invariant-loop-name : goal.invariant-loop-name
invariant-loop-name l = record {
  items : l.clusters ≡ unnamed (take l.name-index l.from) (l.fn.clusters ++ l.fn.whole ∷ []);
  by_name : AllPairs ByName l.clusters;
}
