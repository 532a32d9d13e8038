-- What `measure` writes of a sketch numbered anew: how far off the constraints of the sketch itself are, by their new numbers.
use Rattle.std.specs.Prelude.{◌≡◌, ℕ, ◌+◌, ◌==◌, List, ◌++◌}
use Rattle.std.specs.List.{position_or_len}
use Rattle.std.specs.Option.{option_map}
use Rattle.sk_base.specs.declared.ConId.{ConId}
use Rattle.sk_base.specs.declared.Constraint.{Constraint}
use Rattle.sk_base.specs.declared.Placed.{Placed}
use Rattle.sk_base.specs.declared.Sketch.{Sketch}
use Rattle.sk_graph.specs.SketchGraph.{graph_of}
use Rattle.sk_lines.specs.Lines.{EndsLine}
use Rattle.sk_lang.specs.Renumbered.{place_of as new_element, renumbered}
use Rattle.sk_tolerance.specs.declared.OffBy.{OffBy}
use Rattle.sk_tolerance.specs.declared.Spotted.{Spotted}
use Rattle.sk_tolerance.specs.declared.Spotted.TheVariants.{Con, Line}
use Rattle.sk_tolerance.specs.declared.Tolerance.{Tolerance}
use Rattle.sk_report.specs.ExcessReport.{off_line}
use Rattle.sk_report.specs.SolveReport.{tolerance_lines}
use Rattle.sk_solve.specs.Placements.{IsTolerance}
use Rattle.sk_answers.specs.MeasureAnswer.{all_numbers}
use Rattle.sk_answers.specs.MeasureReport.{measured_line}
use Rattle.sk_answers.specs.OffsThere.{IsOffThere, AreOffsPut}

-- the new number of a constraint: its place, from 1
abbrev pub new_constraint : Sketch → ConId → ConId
new_constraint s k = record { 0 = 1 + position_or_len (λ (c : Constraint). c.number.0 == k.0) s.constraints }

-- the same tolerances, with what is worst by its new number
abbrev pub spotted_renumbered : Sketch → Spotted → Spotted
spotted_renumbered s (Con k) = Con (new_constraint s k)
spotted_renumbered s (Line e) = Line (new_element s e)

abbrev pub tolerance_renumbered : Sketch → Tolerance → Tolerance
tolerance_renumbered s t = record t { worst_t = option_map (new_constraint s) t.worst_t; worst_w = option_map (spotted_renumbered s) t.worst_w }

-- the line of `measure` on a constraint, by its new number
abbrev pub line_renumbered : Sketch → ConId → OffBy → List ℕ
line_renumbered s k off = measured_line (renumbered s) (new_constraint s k) off

-- by how much the places are off each constraint of the sketch, in order, and the least tolerances with which all holds
-- there, in the words of `measure` on the sketch that is numbered anew
pub record TellsOffsRenumbered (s : Sketch) (at : Placed) (text : List ℕ) : Type 0 where
  pub lines : List ℕ
  pub least : Tolerance
  pub offs : AreOffsPut (line_renumbered s) s at (all_numbers s) lines
  pub tolerance : IsTolerance at (graph_of s) least
  pub is : text ≡ lines ++ tolerance_lines (renumbered s) (tolerance_renumbered s least)

-- the line stands in the text, behind whole lines
abbrev pub StandsIn : List ℕ → List ℕ → Type 0
StandsIn line text = (before after : List ℕ) × EndsLine before × (text ≡ before ++ (line ++ after))

-- the text of `excess` has its line on the constraint, and that of `measure` the line by its new number: the places are off
-- it by the one amount that both lines tell
pub record TellsAlike (limit : ℕ) (s : Sketch) (at : Placed) (told text : List ℕ) (k : ConId) : Type 0 where
  pub off : OffBy
  pub there : IsOffThere at s k off
  pub left : StandsIn (off_line s limit k off) told
  pub measured : StandsIn (line_renumbered s k off) text
