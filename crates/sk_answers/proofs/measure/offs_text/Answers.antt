use Rattle.std.proofs.Common.{sym, subst}
use Rattle.sk_base.specs.SoundGraph.{IsSoundGraph}
use Rattle.sk_graph.proofs.Soundness.{graph_is_sound}
use Rattle.sk_answers.proofs.measure.offs_text.Goals as goal

pub least-requires-clause-graph : goal.least-requires-clause-graph
least-requires-clause-graph c = subst IsSoundGraph (sym c.requires.graph) (graph_is_sound c.args.s.now c.requires.sound)
