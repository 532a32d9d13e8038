-- No constraint is left out of two parts.
use Rattle.std.proofs.Common.{◌≡◌, List, sym, subst, ◌∙◌}
use Rattle.std.specs.Prelude.{Contains}
use Rattle.sk_base.specs.declared.ConId.{ConId}
use Rattle.sk_base.specs.declared.Constraint.{Constraint}
use Rattle.sk_base.specs.declared.Sketch.{Sketch}
use Rattle.sk_base.specs.SoundSketch.{IsSoundSketch}
use Rattle.sk_base.proofs.Members.{filtered_from}
use Rattle.sk_graph.specs.SketchGraph.{graph_of}
use Rattle.sk_verdict.specs.declared.Judgement.{Judgement}
use Rattle.sk_verdict.specs.declared.Part.{Part}
use Rattle.sk_plan.specs.Judged.{IsTheJudgement}
use Rattle.sk_parts.specs.OwnSketch.{lies_among, part_sketch, HasInOwn}
use Rattle.sk_parts.proofs.Drawing.{part_is_sound}
use Rattle.sk_parts.proofs.Sharing.{once_judged}
use Rattle.sk_excess.specs.LeftOut.{AreLeftOut}
use Rattle.sk_answers.proofs.OffLines.{numbered}
use Rattle.sk_cli.proofs.ExcessTold.{left_numbered}

-- of two parts none has what is left out of the other
pub once_left : (s : Sketch) → IsSoundSketch s → (j : Judgement) → IsTheJudgement (graph_of s) j → (p q : Part) → Contains j.parts p → Contains j.parts q → (ps qs : List ConId)
    → AreLeftOut (graph_of (part_sketch s p.elements)) ps → AreLeftOut (graph_of (part_sketch s q.elements)) qs → (k : ConId) → Contains ps k → Contains qs k → p ≡ q
once_left s sound j judged p q p_in q_in ps qs of_p of_q k k_of_p k_of_q =
    let (c, c_in, c_is) = left_numbered (part_sketch s p.elements) (part_is_sound s p.elements sound) ps of_p k k_of_p in
    let (d, d_in, d_is) = left_numbered (part_sketch s q.elements) (part_is_sound s q.elements sound) qs of_q k k_of_q in
    let c_there = (filtered_from (lies_among p.elements) s.constraints c c_in).0 in
    let d_there = (filtered_from (lies_among q.elements) s.constraints d d_in).0 in
    let first = numbered s sound c c_there k c_is in
    let second = numbered s sound d d_there k d_is in
    let same : d ≡ c = cc in
    let (r, r_in, has, only) = once_judged s j sound judged c c_there in
    only p p_in c_in ∙ sym (only q q_in (subst (λ (x : Constraint). HasInOwn s q.elements x) same d_in))
