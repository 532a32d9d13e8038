use Rattle.std.proofs.Common.{◌≡◌, ℕ, List, subst, Result, Ok, Err}
use Rattle.std.specs.Prelude.{IfOk}
use Rattle.sk_base.specs.declared.ConId.{ConId}
use Rattle.sk_base.specs.declared.Sketch.{Sketch}
use Rattle.sk_graph.specs.SketchGraph.{graph_of}
use Rattle.sk_graph.proofs.Soundness.{graph_is_sound}
use Rattle.sk_excess.specs.LeftOut.{AreLeftOut}
use Rattle.sk_excess.proofs.Choosing.{kept_one, left_has}
use Rattle.sk_why.specs.WhyReport.{AreReasonsTold, AreGroupsTold}
use Rattle.sk_why.proofs.text.groups.Goals as goal

told_so : {E : Type 0} (r : Result (List ℕ) E) (own : Sketch) (left slice : List ConId) → slice ≡ left → AreLeftOut (graph_of own) left → IfOk r (AreReasonsTold own slice slice) → IfOk r (AreGroupsTold own)
told_so (Ok text) own left slice is are told = (left, are, subst (λ (ks : List ConId). AreReasonsTold own ks ks text) is told)
told_so (Err e) own left slice is are told = tt

pub tree_of_kept-requires-clause-one : goal.tree_of_kept-requires-clause-one
tree_of_kept-requires-clause-one c =
    let g = graph_of c.args.own.now in
    let are : AreLeftOut g c.in_ok-left.left = rw c.in_ok-graph.ensures.graph at c.in_ok-left.ensures.left_out in
    rw c.as_slice.ensures (kept_one g (graph_is_sound c.args.own.now c.requires.sound) c.in_ok-left.left are c.requires.one)

pub kept_of-requires-clause-tree : goal.kept_of-requires-clause-tree
kept_of-requires-clause-tree c = rw (c.as_slice-2.ensures, c.in_ok-graph.ensures.graph) (rw c.as_slice.ensures at c.in_ok-tree.ensures)

pub reasons_text-requires-clause-there : goal.reasons_text-requires-clause-there
reasons_text-requires-clause-there c k k_in =
    let are : AreLeftOut (graph_of c.args.own.now) c.in_ok-left.left = rw c.in_ok-graph.ensures.graph at c.in_ok-left.ensures.left_out in
    let has = left_has (graph_of c.args.own.now) (graph_is_sound c.args.own.now c.requires.sound) c.in_ok-left.left are k (rw c.as_slice-3.ensures at k_in) in
    rw c.in_ok-graph.ensures.graph has

pub reasons_text-requires-clause-kept : goal.reasons_text-requires-clause-kept
reasons_text-requires-clause-kept c = rw c.as_slice-3.ensures (rw c.as_slice-2.ensures at c.in_ok-kept.ensures)

pub returns : goal.returns
returns c =
    let are : AreLeftOut (graph_of c.args.own.now) c.in_ok-left.left = rw c.in_ok-graph.ensures.graph at c.in_ok-left.ensures.left_out in
    told_so c.reasons_text.result c.args.own.now c.in_ok-left.left c.as_slice-3.result.now c.as_slice-3.ensures are c.reasons_text.ensures
