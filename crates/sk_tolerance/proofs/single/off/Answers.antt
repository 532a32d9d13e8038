use Rattle.std.proofs.Common.{sym, subst}
use Rattle.sk_base.specs.declared.Graph.{Graph}
use Rattle.sk_base.specs.SoundGraph.{IsSoundGraph}
use Rattle.sk_measure.specs.Placing.{PlacesExactly}
use Rattle.sk_graph.proofs.Soundness.{graph_is_sound}
use Rattle.sk_tolerance.specs.Offs.{HasNumber}
use Rattle.sk_tolerance.proofs.Numbered.{number_there}
use Rattle.sk_tolerance.proofs.single.off.Goals as goal

pub turned_sense-requires-clause-placed : goal.turned_sense-requires-clause-placed
turned_sense-requires-clause-placed c = subst (λ (g : Graph). PlacesExactly g c.args.p.now) c.requires.graph c.requires.placed

pub off_with-requires-clause-graph : goal.off_with-requires-clause-graph
off_with-requires-clause-graph c = subst IsSoundGraph (sym c.requires.graph) (graph_is_sound c.args.s.now c.requires.sketch)

pub off_with-requires-clause-there : goal.off_with-requires-clause-there
off_with-requires-clause-there c = subst (λ (g : Graph). HasNumber g c.args.c.now.number) (sym c.requires.graph) (number_there c.args.s.now c.args.c.now c.requires.constraint)
