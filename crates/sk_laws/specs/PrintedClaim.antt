-- The claim that a user makes of what `plan` and `solve` print, and the places alone.
use Rattle.std.specs.Prelude.{ℕ, List, [], ◌∷◌, ◌++◌, codes}
use Rattle.std.specs.List.{flat_map}
use Rattle.sk_base.specs.declared.Placed.{Placed}
use Rattle.sk_base.specs.declared.Sketch.{Sketch}
use Rattle.sk_base.specs.Spelling.{spaced}
use Rattle.sk_lines.specs.Lines.{ended_lines}
use Rattle.sk_tolerance.specs.declared.Tolerance.{Tolerance}
use Rattle.sk_report.specs.PlanReport.{step_line}
use Rattle.sk_report.specs.SolveReport.{element_lines}
use Rattle.sk_tree.specs.declared.Plan.{Plan as ThePlan}
use Rattle.sk_claims.specs.declared.claim.Claim.{Claim}
use Rattle.sk_claims.specs.ClaimText.{tolerance_words, radii_drawn}

-- the two tolerances that are printed, on a line as a claim has it
abbrev pub tolerance_line : Tolerance → List ℕ
tolerance_line t = ended_lines (spaced (tolerance_words t.t t.w) ∷ [])

-- the step lines of `plan`, the element lines of `solve`, and the tolerances
abbrev pub printed_text : Sketch → ThePlan → Placed → Tolerance → List ℕ
printed_text s p at t = flat_map (step_line s) p.steps ++ (element_lines at s.elements ++ tolerance_line t)

-- the element lines of `solve`, and an `end`
abbrev pub printed_places : Sketch → Placed → List ℕ
printed_places s at = element_lines at s.elements ++ codes "end\n"

-- what these say
abbrev pub printed_claim : Sketch → ThePlan → Placed → Tolerance → Claim
printed_claim s p at t = record { steps = p.steps; at = at; radii = radii_drawn s at.spots; t = t.t; w = t.w }
