use Rattle.std.proofs.Common.{◌∙◌}
use Rattle.sk_measure.proofs.InOrder.{exactly_in_order}
use Rattle.sk_solve.proofs.SpotsPlaced.{spots_made, placement_of, measured_within, uncarried, uncarried_within}
use Rattle.sk_solve.proofs.placing.placed_boxes.Goals as goal

pub measured-requires-clause-placed : goal.measured-requires-clause-placed
measured-requires-clause-placed g c =
    exactly_in_order c.args.g.now c.in_ok-at-in-Ok.at c.requires.sound.nodes_rise
    (spots_made g.G.Grid.BITS c.in-Ok.there c.args.g.now.nodes c.in_ok-at-in-Ok.at.spots (c.in-Ok.ensures.nodes ∙ c.requires.nodes) c.in_ok-at-in-Ok.ensures.value c.in_ok-at-in-Ok.ensures.bounded)

pub returns-in_ok-at-in-Ok-clause-placement : goal.returns-in_ok-at-in-Ok-clause-placement
returns-in_ok-at-in-Ok-clause-placement g c =
    placement_of c.args.wanted _ c.args.placing g.G.Grid.BITS c.args.limit c.args.s.now c.args.p.now c.args.g.now c.args.boxes c.in-Ok.there c.in_ok-at-in-Ok.at c.measured.result
    c.requires.graph c.requires.placed c.in-Ok.ensures.carried c.in_ok-at-in-Ok.ensures.value c.measured.ensures

pub returns-in_ok-at-in-Ok-clause-bounded : goal.returns-in_ok-at-in-Ok-clause-bounded
returns-in_ok-at-in-Ok-clause-bounded g c =
    measured_within c.args.wanted c.args.limit c.args.s.now c.args.p.now c.in_ok-at-in-Ok.at c.measured.result c.in_ok-at-in-Ok.ensures.bounded c.measured.ensures

pub returns-in-Err-clause-placement : goal.returns-in-Err-clause-placement
returns-in-Err-clause-placement g c =
    uncarried c.args.wanted _ c.args.placing g.G.Grid.BITS c.args.limit c.args.s.now c.args.p.now c.args.g.now c.args.boxes c.in-Err.error c.uncarried.result
    c.requires.graph c.requires.placed c.in-Err.ensures.carried c.uncarried.ensures

pub returns-in-Err-clause-bounded : goal.returns-in-Err-clause-bounded
returns-in-Err-clause-bounded g c = uncarried_within c.in-Err.error c.uncarried.result c.uncarried.ensures
