use Rattle.std.proofs.Common.{take}
use Rattle.std.specs.Prelude.{Contains}
use Rattle.sk_family.specs.declared.Merge.{Merge}
use Rattle.sk_family.specs.declared.Cluster.{Cluster}
use Rattle.sk_close_any_order.specs.Settling.{MergesOf}
use Rattle.sk_close_any_order.proofs.any_order.next_merge.Given as goal

abbrev pub invariant-loop-x : goal.invariant-loop-x
invariant-loop-x l = (c : Cluster) (m : Merge) → Contains (take l.x-index l.clusters) c → ¬ MergesOf l.index c m
