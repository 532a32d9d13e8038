use Rattle.sk_graph.proofs.Soundness.{graph_is_sound}
use Rattle.sk_plan.proofs.OnePlan.{same_plan, one_plan_by}
use Rattle.sk_plan.proofs.law.one_plan.Goals as goal

pub returns-clause-merges : goal.returns-clause-merges
returns-clause-merges c = same_plan

pub returns-clause-by_order : goal.returns-clause-by_order
returns-clause-by_order c order s p q sound = one_plan_by order s p q (graph_is_sound s sound)
