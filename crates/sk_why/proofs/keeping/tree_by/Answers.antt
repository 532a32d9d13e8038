use Rattle.std.proofs.Common.{◌≡◌, ap, subst, ◌∙◌}
use Rattle.std.specs.Prelude.{Option, IfSome, map}
use Rattle.sk_family.specs.Body.{starts}
use Rattle.sk_family.specs.Clusters.{Clusters, start_of}
use Rattle.sk_tree.specs.declared.Tree.{Tree}
use Rattle.sk_tree.specs.PlanTree.{IsPlanTree}
use Rattle.sk_plan.proofs.MadePlans.{plan_made}
use Rattle.sk_why.proofs.PlanBranch.{tree_of_all}
use Rattle.sk_why.proofs.keeping.tree_by.Goals as goal
use Rattle.sk_why.proofs.keeping.tree_by.Goals.{In-Some, After-clusters}

plan_tree_is : (c : In-Some) → IsPlanTree c.args.plan.now c.in-Some.tree
plan_tree_is c = subst (λ (o : Option Tree). IfSome o (λ t. IsPlanTree c.args.plan.now t)) c.in-Some.is c.in_ok-tree.ensures.tree

clusters_are : (c : After-clusters) → c.clusters.result.now ≡ map start_of (starts c.args.graph.now)
clusters_are c = c.clusters.ensures.live ∙ ap (λ (f : Clusters). f.live) c.in_ok-starts-in-Some.ensures.clusters

pub branch_of-requires : goal.branch_of-requires
branch_of-requires c =
    let g = c.args.graph.now in
    let (x, made, nodes) = plan_made g c.args.plan.now c.requires.sound c.requires.legal c.in-Some.tree (plan_tree_is ((goal.at.branch_of-requires c).In-Some)) in
    record { made = (g, x, clusters_are ((goal.at.branch_of-requires c).After-clusters), made) }

pub returns-in_ok-branch_of-in-Some : goal.returns-in_ok-branch_of-in-Some
returns-in_ok-branch_of-in-Some c =
    let g = c.args.graph.now in
    tree_of_all g c.requires.sound c.args.plan.now c.requires.legal c.requires.one c.in-Some.tree (plan_tree_is ((goal.at.returns-in_ok-branch_of-in-Some c).In-Some)) c.in_ok-branch_of-in-Some.field-0
    (λ x made. c.in_ok-branch_of-in-Some.ensures g x c.requires.sound (clusters_are ((goal.at.returns-in_ok-branch_of-in-Some c).After-clusters)) made)
