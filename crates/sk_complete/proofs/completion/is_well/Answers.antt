use Rattle.sk_graph.specs.SketchGraph.{graph_of}
use Rattle.sk_complete.proofs.Verdicts.{over_not_well, several_not_well}
use Rattle.sk_complete.proofs.completion.is_well.Goals as goal

pub returns-in-Over : goal.returns-in-Over
returns-in-Over c = ((λ is. absurd (cc)), (λ well. absurd (over_not_well (graph_of c.args.s.now) c.in_ok-judgement.judgement c.in_ok-judgement.ensures c.in-Over.is well)))

pub returns : goal.returns
returns c = ((λ is. absurd (cc)), (λ well. absurd (several_not_well (graph_of c.args.s.now) c.in_ok-judgement.judgement c.in_ok-judgement.ensures c.in-Several.is well)))
