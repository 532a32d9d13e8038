use Rattle.std.proofs.Common.{sym, subst}
use Rattle.sk_base.specs.declared.Graph.{Graph}
use Rattle.sk_base.specs.SoundGraph.{IsSoundGraph}
use Rattle.sk_graph.proofs.Soundness.{graph_is_sound}
use Rattle.sk_solve.proofs.placing.placed_on.Goals as goal

pub place-requires-clause-sound : goal.place-requires-clause-sound
place-requires-clause-sound g c = subst (λ (graph : Graph). IsSoundGraph graph) (sym c.requires.graph) (graph_is_sound c.args.s.now c.requires.sketch)

pub placed_boxes-requires-clause-sound : goal.placed_boxes-requires-clause-sound
placed_boxes-requires-clause-sound g c = subst (λ (graph : Graph). IsSoundGraph graph) (sym c.requires.graph) (graph_is_sound c.args.s.now c.requires.sketch)
