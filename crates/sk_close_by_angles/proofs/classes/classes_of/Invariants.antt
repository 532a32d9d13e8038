use Rattle.std.proofs.Common.{take}
use Rattle.std.specs.Prelude.{Contains}
use Rattle.sk_family.specs.declared.Cluster.{Cluster}
use Rattle.sk_family.specs.Clusters.{bodies}
use Rattle.sk_close_by_angles.specs.Classes.{TellTies, AreTogether}
use Rattle.sk_close_by_angles.proofs.classes.classes_of.Given as goal

abbrev pub invariant-loop-cluster : goal.invariant-loop-cluster
invariant-loop-cluster l = record {
  tell : TellTies l.graph (bodies l.family) l.classes.items;
  together : (c : Cluster) → Contains (take l.cluster-index l.family.live) c → AreTogether l.classes.items c.elements;
}
