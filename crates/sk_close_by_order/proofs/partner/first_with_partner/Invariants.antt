use Rattle.std.proofs.Common.{take}
use Rattle.std.specs.Prelude.{Contains}
use Rattle.sk_base.specs.declared.Name.{Name}
use Rattle.sk_family.specs.declared.Cluster.{Cluster}
use Rattle.sk_neighbours.specs.Partners.{Partner}
use Rattle.sk_close_by_order.proofs.partner.first_with_partner.Given as goal

abbrev pub invariant-loop-x : goal.invariant-loop-x
invariant-loop-x l = (c : Cluster) (n : Name) → Contains (take l.x-index l.clusters) c → ¬ Partner l.index c n
