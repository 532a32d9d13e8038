use Rattle.std.proofs.Common.{◌≡◌, ◌≤◌, ◌+◌, ◌++◌, List, ℕ, ap, subst, ◌∙◌, length, take, rules, tests}
use Rattle.std.specs.Prelude.{nat_lt}
use Rattle.std.proofs.lemmas.Iterator.{YieldsList-from_slice}
use Rattle.std.proofs.lemmas.Iterator.Consumers.{YieldsList-from_filter, count_from_yields_List}
use Rattle.std.proofs.lemmas.List.{take_all}
use Rattle.sk_base.specs.declared.Sketch.{Sketch}
use Rattle.sk_graph.specs.SketchGraph.{graph_of}
use Rattle.sk_verdict.specs.declared.Judgement.{Judgement}
use Rattle.sk_verdict.specs.declared.Part.{Part}
use Rattle.sk_plan.specs.Judged.{IsTheJudgement}
use Rattle.sk_why.specs.WhyLines.{why_head}
use Rattle.sk_why.specs.OverParts.{StandsForOver, EachOverStands, over_count}
use Rattle.sk_why.specs.WhyReport.{AreGroupsTold, IsWhyReport}
use Rattle.sk_why.proofs.OverTold.{put_each}
use Rattle.sk_why.proofs.text.why_text.Goals as goal

-- the report, where the loop is done
why_report : (s : Sketch) (j : Judgement) (parts : List Part) (i over : ℕ) (lines head text : List ℕ) → parts ≡ j.parts → over ≡ over_count parts → IsTheJudgement (graph_of s) j
    → length parts ≤ i → head ≡ why_head over → EachOverStands AreGroupsTold s 1 (take i parts) lines → text ≡ head ++ lines → IsWhyReport s text
why_report s j parts i over lines head text parts_are over_is judged done head_is told text_is = (
  j,
  lines,
  judged,
  subst (λ (ps : List Part). EachOverStands AreGroupsTold s 1 ps lines) (take_all i parts done ∙ parts_are) told,
  text_is ∙ ap (λ h. h ++ lines) (head_is ∙ ap why_head (over_is ∙ ap over_count parts_are)),
)

pub loop-i-preserved : goal.loop-i-preserved
loop-i-preserved c =
    let part = c.index-parts-i.result in
    let here = c.in_ok-part_groups.field-0 in
    let told : StandsForOver AreGroupsTold c.args.s.now (c.loop-i.i + 1) part here = c.in_ok-part_groups.ensures in
    let at = subst (λ (p : Part). StandsForOver AreGroupsTold c.args.s.now (c.loop-i.i + 1) p here) c.index-parts-i.is told in
    put_each AreGroupsTold c.args.s.now c.as_slice-parts.result.now c.loop-i.i part c.loop-i-test.true _ c.loop-i.text c.put-in-loop-i.new.self here c.loop-i.invariant at
    (c.in_ok-put-2.ensures.ok ∙ ap (λ bytes. c.loop-i.text ++ bytes) c.as_bytes-in-loop-i.ensures)

pub returns : goal.returns
returns c =
    let s = c.args.s.now in
    let j = c.in_ok-judgement.judgement in
    let parts = c.as_slice-parts.result.now in
    let over_is : c.count-over.result ≡ over_count parts =
    count_from_yields_List c.filter.result _ c.count-over.ensures.ran
    (YieldsList-from_filter _ (λ (p : Part). nat_lt p.due p.held) (YieldsList-from_slice parts cc) c.filter.ensures.closure (λ x b q k. search (rules, tests))) in
    let head : c.put.new.self ≡ why_head c.count-over.result =
    c.in_ok-put.ensures.ok ∙ ap (λ t. t ++ c.as_bytes.result.now) c.new-text.ensures ∙ (c.as_bytes.ensures.value ∙ c.in_ok-format.ensures.ok) in
    let (lines, told, text_is) = c.loop-i.invariant in
    let judged : IsTheJudgement (graph_of s) j = rw c.in_ok-graph.ensures.graph at c.in_ok-judgement.ensures in
    why_report s j parts c.loop-i.i c.count-over.result lines c.put.new.self c.loop-i.text c.as_slice-parts.ensures over_is judged c.loop-i-test.false head told text_is
