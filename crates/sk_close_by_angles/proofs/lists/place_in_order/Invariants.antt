use Rattle.std.proofs.Common.{◌≡◌, ◌++◌, take, drop}
use Rattle.sk_close_by_angles.specs.DerivedText.{with_list}
use Rattle.sk_close_by_angles.proofs.lists.place_in_order.Given as goal

abbrev pub invariant-loop-place : goal.invariant-loop-place
invariant-loop-place l = with_list l.lists l.list ≡ take l.place l.lists ++ with_list (drop l.place l.lists) l.list
