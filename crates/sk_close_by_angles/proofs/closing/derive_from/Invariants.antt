use Rattle.std.proofs.Common.{◌+◌, ◌≤◌, length, List, []}
use Rattle.sk_family.specs.Body.{initial_bodies}
use Rattle.sk_family.specs.Clusters.{IsSound, bodies}
use Rattle.sk_family.specs.declared.Merge.{Merge}
use Rattle.sk_rules.specs.Reach.{IsClosed}
use Rattle.sk_close_by_order.specs.Choices.{AreChoices}
use Rattle.sk_close_by_order.specs.Turns.{Follows}
use Rattle.sk_close_by_angles.specs.FollowedTies.{AreTies}
use Rattle.sk_close_by_angles.specs.WideReach.{WideReach}
use Rattle.sk_close_by_angles.specs.WideRun.{WidePicksLead}
use Rattle.sk_close_by_angles.proofs.closing.derive_from.Given as goal

-- the family is closed by the first two rules
abbrev pub invariant-loop-merge : goal.invariant-loop-merge
invariant-loop-merge g l = record {
  room : l.family.next_step + length l.family.live ≤ 4294967296;
  reached : WideReach l.graph (initial_bodies l.graph) (bodies l.family);
  follows : Follows l.work l.graph l.family;
  picks : (ms : List Merge) × WidePicksLead g.P.Picker.answer g.P.Picker.after l.graph l.fn.family l.fn.picker ms l.family l.picker;
  none : AreChoices l.graph l.family [];
  closed : IsClosed l.graph (bodies l.family);
  sound : IsSound l.family;
  ties : AreTies l.graph l.family l.ties.classes.items l.ties.merges;
}

-- each merge by the tie rule leaves fewer clusters
abbrev pub decreases-loop-merge : goal.decreases-loop-merge
decreases-loop-merge g l = length l.family.live
