use Rattle.std.proofs.Common.{sym, subst}
use Rattle.sk_base.specs.SoundGraph.{IsSoundGraph}
use Rattle.sk_graph.proofs.Soundness.{graph_is_sound}
use Rattle.sk_answers.proofs.measure.fault_there.Goals as goal

pub passed-requires-clause-graph : goal.passed-requires-clause-graph
passed-requires-clause-graph c = subst IsSoundGraph (sym c.requires.graph) (graph_is_sound c.args.s.now c.requires.sound)
