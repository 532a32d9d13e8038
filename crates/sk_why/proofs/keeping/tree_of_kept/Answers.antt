use Rattle.std.proofs.Common.{◌≡◌, ◌<◌, length, ap, sym, subst, ◌∙◌}
use Rattle.std.specs.Prelude.{IfOk, IfSome}
use Rattle.sk_base.specs.declared.Graph.{Graph}
use Rattle.sk_base.specs.declared.Sketch.{Sketch}
use Rattle.sk_base.specs.SoundGraph.{IsSoundGraph}
use Rattle.sk_graph.specs.SketchGraph.{graph_of}
use Rattle.sk_graph.proofs.Soundness.{graph_is_sound}
use Rattle.sk_rules.proofs.JustSome.{sound_part}
use Rattle.sk_tree.specs.LegalPlan.{IsLegalPlan}
use Rattle.sk_verdict.specs.OneCluster.{IsOneCluster}
use Rattle.sk_excess.specs.LeftOut.{is_kept, kept_graph}
use Rattle.sk_excess.proofs.KeptSketches.{kept_graph_is}
use Rattle.sk_why.specs.BranchOf.{IsTreeOfAll}
use Rattle.sk_why.proofs.KeptElements.{some_elements}
use Rattle.sk_why.proofs.keeping.tree_of_kept.Goals as goal
use Rattle.sk_why.proofs.keeping.tree_of_kept.Goals.{In_ok-kept, In-Ok}

kept_sound : (c : In_ok-kept) → IsSoundGraph (kept_graph c.args.left.now (graph_of c.args.own.now))
kept_sound c = sound_part (graph_of c.args.own.now) (is_kept c.args.left.now) (graph_is_sound c.args.own.now c.requires.sound)

-- the graph of the plan is that of what is kept
planned_graph : (c : In-Ok) → c.in-Ok.planned.graph ≡ kept_graph c.args.left.now (graph_of c.args.own.now)
planned_graph c = c.in-Ok.ensures.graph ∙ ap (λ (s : Sketch). graph_of s) c.in_ok-kept.ensures.exact ∙ kept_graph_is c.args.left.now c.args.own.now

pub planned_by-requires-clause-some : goal.planned_by-requires-clause-some
planned_by-requires-clause-some c =
    subst (λ (s : Sketch). 0 < length s.elements) (sym c.in_ok-kept.ensures.exact)
    (some_elements c.args.own.now c.args.left.now (kept_sound ((goal.at.planned_by-requires-clause-some c).In_ok-kept)) c.requires.one)

pub tree_by-requires-clause-sound : goal.tree_by-requires-clause-sound
tree_by-requires-clause-sound c =
    subst (λ (g : Graph). IsSoundGraph g) (sym (planned_graph ((goal.at.tree_by-requires-clause-sound c).In-Ok))) (kept_sound ((goal.at.tree_by-requires-clause-sound c).In_ok-kept))

pub tree_by-requires-clause-one : goal.tree_by-requires-clause-one
tree_by-requires-clause-one c = subst (λ (g : Graph). IsOneCluster g) (sym (planned_graph ((goal.at.tree_by-requires-clause-one c).In-Ok))) c.requires.one

pub tree_by-requires-clause-legal : goal.tree_by-requires-clause-legal
tree_by-requires-clause-legal c = subst (λ (g : Graph). IsLegalPlan g c.in-Ok.planned.plan) (sym c.in-Ok.ensures.graph) c.in-Ok.ensures.plan.legal

pub returns-in-Ok : goal.returns-in-Ok
returns-in-Ok c =
    subst (λ (g : Graph). IfOk c.tree_by.result (λ tree. IfSome tree (λ t. IsTreeOfAll g t))) (planned_graph ((goal.at.returns-in-Ok c).In-Ok)) c.tree_by.ensures
