use Rattle.sk_family.specs.Clusters.{initial_clusters}
use Rattle.sk_plan.proofs.Legal.{corners_of}
use Rattle.sk_plan.proofs.MadePlans.{plan_made}
use Rattle.sk_plan.proofs.PlanTrees.{tree_leaves, some_plan_tree}
use Rattle.sk_plan.proofs.WellPlans.{plan_well}
use Rattle.sk_plan.proofs.PlanTells.{plan_steps, plan_nodes, plan_due, plan_sparse, plan_few_angles}
use Rattle.sk_plan.proofs.law.legal_plan.Goals as goal

pub returns-clause-well : goal.returns-clause-well
returns-clause-well c = plan_well

pub returns-clause-corners : goal.returns-clause-corners
returns-clause-corners c g p legal s e s_in e_in = corners_of g (initial_clusters g) p.steps legal.steps s s_in e e_in

pub returns-clause-steps : goal.returns-clause-steps
returns-clause-steps c = plan_steps

pub returns-clause-without_blocks : goal.returns-clause-without_blocks
returns-clause-without_blocks c g p sound legal none = plan_nodes g p sound legal none

pub returns-clause-leaves : goal.returns-clause-leaves
returns-clause-leaves c g p sound legal t is = tree_leaves g p sound legal t is

pub returns-clause-made : goal.returns-clause-made
returns-clause-made c g p sound legal t is = plan_made g p sound legal t is

pub returns-clause-due : goal.returns-clause-due
returns-clause-due c = plan_due

pub returns-clause-elements : goal.returns-clause-elements
returns-clause-elements c = plan_sparse

pub returns-clause-lines : goal.returns-clause-lines
returns-clause-lines c = plan_few_angles

pub returns-clause-tree : goal.returns-clause-tree
returns-clause-tree c = some_plan_tree
