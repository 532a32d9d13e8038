use Rattle.std.proofs.Common.{◌≡◌, ◌⊎◌, ◌++◌, inl, inr, ℕ, List, ap, subst, ◌∙◌, Result, Ok, Err}
use Rattle.std.specs.Prelude.{IfOk, is_some}
use Rattle.sk_base.specs.declared.ConId.{ConId}
use Rattle.sk_base.specs.declared.Sketch.{Sketch}
use Rattle.sk_graph.specs.SketchGraph.{graph_of}
use Rattle.sk_excess.specs.LeftOut.{AreLeftOut}
use Rattle.sk_excess.specs.KeptSketch.{kept_sketch}
use Rattle.sk_report.specs.ExcessReport.{left_lines, stays_over}
use Rattle.sk_request.specs.declared.Request.{Request}
use Rattle.sk_cli.specs.Solved.{IsReportNotWell}
use Rattle.sk_cli.specs.ExcessReport.{IsMeasuredLeft, IsFaultyLeft, IsExcess}
use Rattle.sk_answers.proofs.OffLines.{numbered}
use Rattle.sk_cli.proofs.ExcessTold.{left_numbered}
use Rattle.sk_cli.proofs.PartsTold.{never_reported}
use Rattle.sk_cli.proofs.excess.excess.Goals as goal

placed_so : {E : Type 0} (r : Result (List ℕ) E) (request : Request) (own : Sketch) (left slice : List ConId) → slice ≡ left → AreLeftOut (graph_of own) left
    → IfOk r (λ text. IsMeasuredLeft request own slice text ⊎ IsFaultyLeft request own slice text) → IfOk r (IsExcess request own)
placed_so (Ok text) request own left slice is are told =
    let of_left = subst (λ (ks : List ConId). IsMeasuredLeft request own ks text ⊎ IsFaultyLeft request own ks text) is told in
    (left, are, elim of_left [ inl measured ↦ inl measured | inr faulty ↦ inr (inl faulty) ])
placed_so (Err e) request own left slice is are told = tt

left_over : {E : Type 0} (r : Result (List ℕ) E) (request : Request) (own kept : Sketch) (left slice : List ConId) (report : List ℕ) → slice ≡ left → kept ≡ kept_sketch left own → AreLeftOut (graph_of own) left
    → IsReportNotWell kept report → IfOk r (λ text. text ≡ left_lines own slice ++ stays_over) → IfOk r (IsExcess request own)
left_over (Ok text) request own kept left slice report is kept_is are not_well told = (
  left,
  are,
  inr (inr ((λ well. never_reported (kept_sketch left own) report well (subst (λ (s : Sketch). IsReportNotWell s report) kept_is not_well)), told ∙ ap (λ (ks : List ConId). left_lines own ks ++ stays_over) is)),
)
left_over (Err e) request own kept left slice report is kept_is are not_well told = tt

pub placed_text-requires-clause-there : goal.placed_text-requires-clause-there
placed_text-requires-clause-there c k k_in =
    let are : AreLeftOut (graph_of c.args.own.now) c.in_ok-left.left = rw c.in_ok-graph.ensures.graph at c.in_ok-left.ensures.left_out in
    let (x, x_in, named) = left_numbered c.args.own.now c.requires.sound c.in_ok-left.left are k (rw c.as_slice-in-Planned.ensures at k_in) in
    ap is_some (numbered c.args.own.now c.requires.sound x x_in k named)

pub returns-in-Planned : goal.returns-in-Planned
returns-in-Planned c =
    let are : AreLeftOut (graph_of c.args.own.now) c.in_ok-left.left = rw c.in_ok-graph.ensures.graph at c.in_ok-left.ensures.left_out in
    placed_so c.placed_text.result c.args.request c.args.own.now c.in_ok-left.left c.as_slice-in-Planned.result.now c.as_slice-in-Planned.ensures are c.placed_text.ensures

pub returns : goal.returns
returns c =
    let are : AreLeftOut (graph_of c.args.own.now) c.in_ok-left.left = rw c.in_ok-graph.ensures.graph at c.in_ok-left.ensures.left_out in
    let kept_is : c.in_ok-kept.kept ≡ kept_sketch c.in_ok-left.left c.args.own.now = c.in_ok-kept.ensures.exact ∙ ap (λ (ks : List ConId). kept_sketch ks c.args.own.now) c.as_slice.ensures in
    left_over c.left_text.result c.args.request c.args.own.now c.in_ok-kept.kept c.in_ok-left.left c.as_slice-in-NotWell.result.now c.in-NotWell.field-0 c.as_slice-in-NotWell.ensures kept_is are (rw c.in-NotWell.is at c.in_ok-kept_graph.ensures) c.left_text.ensures
