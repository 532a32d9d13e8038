use Rattle.std.proofs.Common.{List, get_or, subst}
use Rattle.std.specs.Prelude.{Contains}
use Rattle.std.proofs.lemmas.List.Elements.{Contains-get_or}
use Rattle.sk_base.specs.declared.Edge.{Edge}
use Rattle.sk_measure.proofs.Placings.{any_edge, measurable}
use Rattle.sk_test_runs.proofs.tolerances.edge_meets.Goals as goal

edge_inside : (c : goal.After-as_slice) → Contains c.args.graph.now.edges (get_or c.as_slice.result.now c.args.i any_edge)
edge_inside c =
    subst (λ (xs : List Edge). Contains xs (get_or c.as_slice.result.now c.args.i any_edge)) c.as_slice.ensures
    (Contains-get_or c.as_slice.result.now c.args.i any_edge (rw c.as_slice.ensures c.requires.inside))

pub meets-requires-clause-edge : goal.meets-requires-clause-edge
meets-requires-clause-edge c = (c.args.graph.now, c.requires.sound, edge_inside c)

pub meets-requires-clause-placed : goal.meets-requires-clause-placed
meets-requires-clause-placed c = (measurable c.args.graph.now c.args.at.now c.requires.sound c.requires.placed _ (edge_inside c)).ends
