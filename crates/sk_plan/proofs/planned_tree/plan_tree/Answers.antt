use Rattle.std.proofs.Common.{◌≡◌, ap, ◌∙◌, refl, List, true, false}
use Rattle.std.specs.Prelude.{map}
use Rattle.sk_tree.specs.declared.PlanStep.{PlanStep}
use Rattle.sk_tree.specs.LegalPlan.{taken_told}
use Rattle.sk_plan.proofs.PlanTrees.{joins_of, tree_of_last, tree_of_none, some_leaves, if_some_tree, none_as}
use Rattle.sk_plan.proofs.planned_tree.plan_tree.Goals as goal

pub build-requires : goal.build-requires
build-requires c =
    joins_of c.args.plan.now c.requires c.in_ok-taken.taken (c.in_ok-taken.ensures ∙ ap (λ (ss : List PlanStep). map taken_told ss) c.as_slice.ensures)

pub returns-in-Some-clause-none : goal.returns-in-Some-clause-none
returns-in-Some-clause-none c =
    let whole = tree_of_last c.args.plan.now c.requires c.in_ok-taken.taken (c.in_ok-taken.ensures ∙ ap (λ (ss : List PlanStep). map taken_told ss) c.as_slice.ensures)
    c.in-Some.tree (rw c.in-Some.is at c.in_ok-tree.ensures.some) in
    ((λ (never : true ≡ false). absurd (cc)), (λ none. absurd (some_leaves c.args.plan.now c.in-Some.tree whole none)))

pub returns-in-Some-clause-tree : goal.returns-in-Some-clause-tree
returns-in-Some-clause-tree c =
    (tree_of_last c.args.plan.now c.requires c.in_ok-taken.taken (c.in_ok-taken.ensures ∙ ap (λ (ss : List PlanStep). map taken_told ss) c.as_slice.ensures)
    c.in-Some.tree (rw c.in-Some.is at c.in_ok-tree.ensures.some)).tree

pub returns-in-Some-clause-leaves : goal.returns-in-Some-clause-leaves
returns-in-Some-clause-leaves c =
    (tree_of_last c.args.plan.now c.requires c.in_ok-taken.taken (c.in_ok-taken.ensures ∙ ap (λ (ss : List PlanStep). map taken_told ss) c.as_slice.ensures)
    c.in-Some.tree (rw c.in-Some.is at c.in_ok-tree.ensures.some)).leaves

pub returns-in-Some-clause-steps : goal.returns-in-Some-clause-steps
returns-in-Some-clause-steps c =
    (tree_of_last c.args.plan.now c.requires c.in_ok-taken.taken (c.in_ok-taken.ensures ∙ ap (λ (ss : List PlanStep). map taken_told ss) c.as_slice.ensures)
    c.in-Some.tree (rw c.in-Some.is at c.in_ok-tree.ensures.some)).steps

pub returns-clause-none : goal.returns-clause-none
returns-clause-none c = none_as c.args.plan.now c.first_leaf.result c.as_slice-in-None.result.now c.first_leaf.ensures c.as_slice-in-None.ensures

pub returns-clause-tree : goal.returns-clause-tree
returns-clause-tree c =
    (if_some_tree c.args.plan.now c.first_leaf.result
    (tree_of_none c.args.plan.now c.requires c.in_ok-taken.taken (c.in_ok-taken.ensures ∙ ap (λ (ss : List PlanStep). map taken_told ss) c.as_slice.ensures)
    (c.in_ok-tree.ensures.none.0 (rw c.in-None.is refl)) c.first_leaf.result c.as_slice-in-None.result.now c.first_leaf.ensures c.as_slice-in-None.ensures)).0

pub returns-clause-leaves : goal.returns-clause-leaves
returns-clause-leaves c =
    (if_some_tree c.args.plan.now c.first_leaf.result
    (tree_of_none c.args.plan.now c.requires c.in_ok-taken.taken (c.in_ok-taken.ensures ∙ ap (λ (ss : List PlanStep). map taken_told ss) c.as_slice.ensures)
    (c.in_ok-tree.ensures.none.0 (rw c.in-None.is refl)) c.first_leaf.result c.as_slice-in-None.result.now c.first_leaf.ensures c.as_slice-in-None.ensures)).1

pub returns-clause-steps : goal.returns-clause-steps
returns-clause-steps c =
    (if_some_tree c.args.plan.now c.first_leaf.result
    (tree_of_none c.args.plan.now c.requires c.in_ok-taken.taken (c.in_ok-taken.ensures ∙ ap (λ (ss : List PlanStep). map taken_told ss) c.as_slice.ensures)
    (c.in_ok-tree.ensures.none.0 (rw c.in-None.is refl)) c.first_leaf.result c.as_slice-in-None.result.now c.first_leaf.ensures c.as_slice-in-None.ensures)).2
