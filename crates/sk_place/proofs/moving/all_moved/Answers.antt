use Rattle.std.proofs.Common.{get_or}
use Rattle.std.proofs.lemmas.List.Elements.{Contains-get_or}
use Rattle.sk_place.proofs.Results.{each_bounded}
use Rattle.sk_place.proofs.moving.all_moved.Goals as goal

pub of-requires : goal.of-requires
of-requires g c = λ k d below.
    each_bounded c.args.placing g.G.Grid.BITS c.args.motion.now c.as_slice.result.now c.in_ok-list.list c.in_ok-list.ensures
    (get_or c.in_ok-list.list k d) (Contains-get_or c.in_ok-list.list k d below)
