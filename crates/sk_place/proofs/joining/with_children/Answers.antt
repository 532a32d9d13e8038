use Rattle.std.proofs.Common.{sym, subst}
use Rattle.sk_place.specs.Clusters.{Rise}
use Rattle.sk_place.proofs.Lookups.{rises_with}
use Rattle.sk_place.proofs.Corners.{shared_first, shared_second, rises_with_all}
use Rattle.sk_place.proofs.joining.with_children.Goals as goal

pub carried_child-requires : goal.carried_child-requires
carried_child-requires g c =
    rw (c.as_slice.ensures, c.as_slice-here.ensures, c.in_ok-put.ensures) (shared_first c.args.t c.args.w c.requires.corners c.requires.kinds)

pub carried_child-requires-2 : goal.carried_child-requires-2
carried_child-requires-2 g c =
    rw (c.as_slice-2.ensures, c.as_slice-here.ensures, c.in_ok-put.ensures) (shared_second c.args.t c.args.w c.requires.corners c.requires.kinds)

pub put_all-requires : goal.put_all-requires
put_all-requires g c = subst Rise (sym c.in_ok-put.ensures) (rises_with (record { elem = c.args.t.w; at = c.args.w }) c.args.t.kept c.requires.corners.kept_rises)

pub put_all-requires-2 : goal.put_all-requires-2
put_all-requires-2 g c =
    subst Rise (sym c.in_ok-put_all.ensures)
    (rises_with_all c.as_slice-3.result.now c.put.new.boxes
    (subst Rise (sym c.in_ok-put.ensures) (rises_with (record { elem = c.args.t.w; at = c.args.w }) c.args.t.kept c.requires.corners.kept_rises)))
