use Rattle.std.proofs.Common.{get_or, arith}
use Rattle.std.proofs.lemmas.List.Elements.{Contains-get_or}
use Rattle.sk_measure.proofs.Placings.{any_edge}
use Rattle.sk_tolerance.proofs.tolerance.worst_distance.Goals as goal

pub loop-e-init : goal.loop-e-init
loop-e-init c = c.none-worst.ensures c.args.p.now

pub with_distance-worst-requires : goal.with_distance-worst-requires
with_distance-worst-requires c = c.requires (get_or c.args.edges.now c.loop-e.e-index any_edge) (Contains-get_or c.args.edges.now c.loop-e.e-index any_edge (omega arith))
