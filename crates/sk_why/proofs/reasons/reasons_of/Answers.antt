use Rattle.std.proofs.Common.{◌≡◌, List, ap, sym, subst, ◌∙◌}
use Rattle.std.specs.Prelude.{Option, IfSome, filter}
use Rattle.std.proofs.lemmas.Result.{IfOk-weaker}
use Rattle.sk_base.specs.declared.ConId.{ConId}
use Rattle.sk_family.specs.Clusters.{Clusters}
use Rattle.sk_rules.specs.JustSome.{with_just}
use Rattle.sk_tree.specs.LegalPlan.{numbers_of}
use Rattle.sk_excess.specs.LeftOut.{is_number, is_kept, kept_graph}
use Rattle.sk_why.specs.declared.branches.Branch.{Branch}
use Rattle.sk_why.specs.Because.{AreBecause, FollowsFrom}
use Rattle.sk_why.specs.BranchOf.{IsTreeOfAll}
use Rattle.sk_why.specs.KeptOf.{IsKept}
use Rattle.sk_why.specs.Needed.{needed}
use Rattle.sk_why.specs.StartOf.{StartsWith}
use Rattle.sk_why.proofs.QuickGroup.{tree_follows}
use Rattle.sk_why.proofs.Starting.{kept_rise, kept_there, then_follows}
use Rattle.sk_why.proofs.reasons.reasons_of.Goals as goal
use Rattle.sk_why.proofs.reasons.reasons_of.Goals.{After-as_slice-numbers}

-- what is kept, and the elements of the constraint
numbers_are : (c : After-as_slice-numbers) (left : List ConId) → IsKept c.args.graph.now left c.args.kept.now → c.as_slice-numbers.result.now ≡ filter (is_kept left) (numbers_of c.args.graph.now)
numbers_are c left kept = c.as_slice-numbers.ensures ∙ kept.numbers

starts_with : (c : After-as_slice-numbers) (left : List ConId) → IsKept c.args.graph.now left c.args.kept.now → StartsWith c.args.graph.now c.args.number c.elements_at-elements.result.now
starts_with c left kept = c.elements_at-elements.ensures c.args.graph.now (c.clusters.ensures.live ∙ ap (λ (f : Clusters). f.live) kept.starts)

pub holding-requires-clause-rise : goal.holding-requires-clause-rise
holding-requires-clause-rise c =
    let (left, kept) = c.requires.kept in
    kept_rise c.args.graph.now c.requires.sound left c.as_slice-numbers.result.now (c.as_slice-numbers.ensures ∙ kept.numbers)

pub holding-requires-clause-there : goal.holding-requires-clause-there
holding-requires-clause-there c =
    let (left, kept) = c.requires.kept in
    kept_there c.args.graph.now c.requires.sound left c.as_slice-numbers.result.now (c.as_slice-numbers.ensures ∙ kept.numbers)

pub returns-in-Some : goal.returns-in-Some
returns-in-Some c =
    let g = c.args.graph.now in
    let ks = c.as_slice-numbers.result.now in
    let es = c.elements_at-elements.result.now in
    IfOk-weaker c.needed_of.result (λ (group : List ConId). group ≡ filter (is_number (needed c.in-Some.tree es)) ks)
    (λ (group : List ConId). (left : List ConId) → IsKept g left c.args.kept.now → FollowsFrom g left c.args.number group)
    (λ group told left kept. (
    let all : IsTreeOfAll (kept_graph left g) c.in-Some.tree = subst (λ (o : Option Branch). IfSome o (λ t. IsTreeOfAll (kept_graph left g) t)) c.in-Some.is kept.tree in
    subst (λ (js : List ConId). FollowsFrom g left c.args.number js) (sym told)
    (tree_follows g c.requires.sound left ks (numbers_are ((goal.at.returns-in-Some c).After-as_slice-numbers) left kept) c.in-Some.tree all c.args.number es
    (starts_with ((goal.at.returns-in-Some c).After-as_slice-numbers) left kept))))
    c.needed_of.ensures

pub returns-in-None : goal.returns-in-None
returns-in-None c =
    let g = c.args.graph.now in
    let ks = c.as_slice-numbers.result.now in
    let es = c.elements_at-elements.result.now in
    IfOk-weaker c.holding.result (AreBecause (with_just (is_number ks) g) es)
    (λ (because : List ConId). (left : List ConId) → IsKept g left c.args.kept.now → FollowsFrom g left c.args.number because)
    (λ because are left kept. then_follows g c.requires.sound left ks (numbers_are ((goal.at.returns-in-None c).After-as_slice-numbers) left kept) c.args.number es
    (starts_with ((goal.at.returns-in-None c).After-as_slice-numbers) left kept) because are)
    c.holding.ensures
