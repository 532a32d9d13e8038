use Rattle.std.proofs.Common.{◌+◌, ◌≤◌, length}
use Rattle.sk_family.specs.Clusters.{IsSound, bodies, IsWithin}
use Rattle.sk_rules.specs.Reach.{Reach}
use Rattle.sk_neighbours.specs.Indexed.{Represents}
use Rattle.sk_close_any_order.specs.Settling.{IsSettledBelow}
use Rattle.sk_close_any_order.proofs.any_order.close_in_any_order.Given as goal

abbrev pub invariant-loop-index : goal.invariant-loop-index
invariant-loop-index l = record {
  room : l.family.next_step + length l.family.live ≤ l.fn.family.next_step + length l.fn.family.live;
  no_more : length l.family.live ≤ length l.fn.family.live;
  sound : IsSound l.fn.family → IsSound l.family;
  reached : Reach l.graph (bodies l.fn.family) (bodies l.family);
  represents : Represents l.index l.graph l.family.live;
  within : IsWithin l.family l.clear;
  settled : IsSettledBelow l.graph l.family l.clear;
}

-- each merge leaves fewer clusters
abbrev pub decreases-loop-index : goal.decreases-loop-index
decreases-loop-index l = length l.family.live
