use Rattle.std.proofs.Common.{◌+◌, ◌≤◌, length}
use Rattle.sk_family.specs.Clusters.{bodies}
use Rattle.sk_rules.specs.Reach.{Reach}
use Rattle.sk_rules.specs.Taking.{Leads}
use Rattle.sk_close_by_order.specs.Turns.{Follows}
use Rattle.sk_close_by_order.specs.Run.{PicksLead, merge_of}
use Rattle.std.specs.Prelude.{map}
use Rattle.sk_close_by_order.proofs.close.close_with.Given as goal

abbrev pub invariant-loop-taken : goal.invariant-loop-taken
invariant-loop-taken g l = record {
  room : l.family.next_step + length l.family.live ≤ 4294967296;
  no_more : length l.family.live ≤ length l.fn.family.live;
  reached : Reach l.graph (bodies l.fn.family) (bodies l.family);
  leads : Leads l.graph l.fn.family l.taken l.family;
  follows : Follows l.work l.graph l.family;
  picks : PicksLead g.P.Picker.answer g.P.Picker.after l.graph l.fn.family l.fn.picker (map merge_of l.taken) l.family l.picker;
}

-- each merge leaves fewer clusters
abbrev pub decreases-loop-taken : goal.decreases-loop-taken
decreases-loop-taken g l = length l.family.live
