use Rattle.std.proofs.Common.{take}
use Rattle.std.specs.Prelude.{Contains, ◌↔◌}
use Rattle.sk_family.specs.declared.Cluster.{Cluster}
use Rattle.sk_base.specs.declared.Elem.{Elem}
use Rattle.sk_base.specs.declared.Kind.TheVariants.{Line}
use Rattle.sk_base.specs.SoundGraph.{HasNode}
use Rattle.sk_neighbours.specs.Indexed.{IsIndex, IsHeld, IsLineAt}
use Rattle.sk_neighbours.proofs.index.Index.of.Given as goal

abbrev pub invariant-loop-cluster : goal.invariant-loop-cluster
invariant-loop-cluster l = record {
  index : IsIndex l.index;
  held : (c : Cluster) → IsHeld l.index c ↔ Contains (take l.cluster-index l.cluster-items) c;
  lines : (e : Elem) → IsLineAt l.index e ↔ HasNode l.graph e Line;
}
