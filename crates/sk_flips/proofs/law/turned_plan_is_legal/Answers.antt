use Rattle.sk_graph.specs.SketchGraph.{graph_of}
use Rattle.sk_flips.proofs.FlippedPlans.{flipped_is_legal}
use Rattle.sk_flips.proofs.law.turned_plan_is_legal.Goals as goal

pub returns : goal.returns
returns c s p names legal = flipped_is_legal (graph_of s) names p legal
