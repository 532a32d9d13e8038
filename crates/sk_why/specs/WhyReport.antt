-- The report on what the constraints that are left out follow from.
use Rattle.std.specs.Prelude.{◌≡◌, ℕ, List, [], ◌∷◌, ◌++◌}
use Rattle.sk_base.specs.declared.ConId.{ConId}
use Rattle.sk_base.specs.declared.Sketch.{Sketch}
use Rattle.sk_graph.specs.SketchGraph.{graph_of}
use Rattle.sk_verdict.specs.declared.Judgement.{Judgement}
use Rattle.sk_plan.specs.Judged.{IsTheJudgement}
use Rattle.sk_excess.specs.LeftOut.{AreLeftOut}
use Rattle.sk_why.specs.WhyLines.{why_head, follows_line}
use Rattle.sk_why.specs.Because.{FollowsFrom}
use Rattle.sk_why.specs.OverParts.{EachOverStands, over_count}

-- a line for each of these constraints, in order, with the kept ones that it follows from
abbrev pub AreReasonsTold : Sketch → List ConId → List ConId → List ℕ → Type 0
AreReasonsTold s left [] text = text ≡ []
AreReasonsTold s left (k ∷ numbers) text =
    (because : List ConId) × (more : List ℕ) × FollowsFrom (graph_of s) left k because × AreReasonsTold s left numbers more × (text ≡ follows_line s k because ++ more)

-- so for each constraint of the own sketch of a part that is left out
abbrev pub AreGroupsTold : Sketch → List ℕ → Type 0
AreGroupsTold own text = (left : List ConId) × AreLeftOut (graph_of own) left × AreReasonsTold own left left text

-- how many parts are over, and of each its line and its groups
abbrev pub IsWhyReport : Sketch → List ℕ → Type 0
IsWhyReport s text =
    (j : Judgement) × (lines : List ℕ) × IsTheJudgement (graph_of s) j × EachOverStands AreGroupsTold s 1 j.parts lines × (text ≡ why_head (over_count j.parts) ++ lines)
