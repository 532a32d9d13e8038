-- What is told of the parts of a sketch: the line of each, and below that of one that isn't over how its own sketch is placed.
use Rattle.std.specs.Prelude.{◌≡◌, ◌⊎◌, ◌+◌, ℕ, List, [], ◌∷◌, ◌++◌}
use Rattle.sk_base.specs.declared.Sketch.{Sketch}
use Rattle.sk_graph.specs.SketchGraph.{graph_of}
use Rattle.sk_verdict.specs.declared.Judgement.{Judgement}
use Rattle.sk_verdict.specs.declared.Part.{Part}
use Rattle.sk_verdict.specs.Judging.{IsOver}
use Rattle.sk_tree.specs.declared.Plan.{Plan as ThePlan}
use Rattle.sk_plan.specs.Judged.{IsTheJudgement}
use Rattle.sk_solve.specs.declared.Placement.{Placement}
use Rattle.sk_parts.specs.OwnSketch.{part_sketch}
use Rattle.sk_report.specs.CheckReport.{part_line, parts_head}
use Rattle.sk_request.specs.declared.Request.{Request}
use Rattle.sk_cli.specs.declared.solving.Report.TheVariants.{Shape}
use Rattle.sk_request.specs.Grids.{digits_of}
use Rattle.sk_cli.specs.Solved.{IsPlacedPlan}
use Rattle.sk_cli.specs.Solving.{placement_words}

-- the verdict on the sketch is well, and this is written of its placed plan: what `solve` writes behind the verdict, or what
-- fails first
abbrev pub IsShape : Request → Sketch → List ℕ → Type 0
IsShape request s text =
    (p : ThePlan) × (placement : Placement) × IsPlacedPlan request s p placement × (text ≡ placement_words Shape (digits_of request.bits) s p placement)

-- below the line of a part that is over stands nothing, and below that of another part what is written of its own sketch
abbrev pub StandsBelow : (Sketch → List ℕ → Type 0) → Sketch → Part → List ℕ → Type 0
StandsBelow IsWritten s p text = (IsOver p × (text ≡ [])) ⊎ ((¬ IsOver p) × IsWritten (part_sketch s p.elements) text)

-- the lines of the parts from this number on, one behind another, and below each what stands there
abbrev pub EachStands : (Sketch → List ℕ → Type 0) → Sketch → ℕ → List Part → List ℕ → Type 0
EachStands IsWritten s number [] text = text ≡ []
EachStands IsWritten s number (p ∷ parts) text =
    (below : List ℕ) × (more : List ℕ) × StandsBelow IsWritten s p below × EachStands IsWritten s (number + 1) parts more × (text ≡ (part_line s number p ++ below) ++ more)

abbrev pub IsBelowPart : Request → Sketch → Part → List ℕ → Type 0
IsBelowPart request s p text = StandsBelow (IsShape request) s p text

abbrev pub ArePartsTold : Request → Sketch → ℕ → List Part → List ℕ → Type 0
ArePartsTold request s number parts text = EachStands (IsShape request) s number parts text

-- the verdict on the sketch and how many parts it has, and then its parts
abbrev pub IsPartsReport : Request → Sketch → List ℕ → Type 0
IsPartsReport request s text =
    (j : Judgement) × (lines : List ℕ) × IsTheJudgement (graph_of s) j × ArePartsTold request s 1 j.parts lines × (text ≡ parts_head j ++ lines)
