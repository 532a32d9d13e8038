use Rattle.std.proofs.Common.{take}
use Rattle.std.specs.Prelude.{◌↔◌, Contains, AllPairs}
use Rattle.sk_family.specs.declared.Cluster.{Cluster}
use Rattle.sk_family.specs.declared.Merge.{Merge}
use Rattle.sk_open_triples.specs.MergeOrder.{ComesFirst}
use Rattle.sk_close_by_angles.specs.TieMerges.{IsTieMergeOf}
use Rattle.sk_close_by_angles.proofs.tie_merges.tie_merges.Given as goal

abbrev pub invariant-loop-cluster : goal.invariant-loop-cluster
invariant-loop-cluster l = record {
  found : (m : Merge) → Contains l.found m ↔ ((a : Cluster) × Contains (take l.cluster-index l.family.live) a × IsTieMergeOf l.graph l.family a l.family.live m);
  in_order : AllPairs ComesFirst l.found;
}
