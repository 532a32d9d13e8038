-- The lines that name what failed: a step, a carried box, a constraint or a line.
use Rattle.std.specs.Prelude.{ℕ, List, [], ◌∷◌, ◌++◌, Option, None, Some, codes}
use Rattle.std.specs.Fmt.{decimal}
use Rattle.sk_base.specs.declared.Constraint.{Constraint}
use Rattle.sk_base.specs.declared.Rule.{Rule}
use Rattle.sk_base.specs.declared.Sketch.{Sketch}
use Rattle.sk_base.specs.ElementNames.{name_of}
use Rattle.sk_base.specs.Spelling.{whole_text}
use Rattle.sk_interval.specs.declared.Cause.{Cause}
use Rattle.sk_steps.specs.Words.{word_of}
use Rattle.sk_place.specs.declared.Phase.{Phase}
use Rattle.sk_place.specs.declared.BoxFault.{BoxFault}
use Rattle.sk_place.specs.declared.StepFault.{StepFault}
use Rattle.sk_tolerance.specs.declared.Beyond.{Beyond}
use Rattle.sk_tolerance.specs.declared.Spotted.{Spotted}
use Rattle.sk_tolerance.specs.declared.Turned.{Turned}
use Rattle.sk_text.specs.ClusterName.{cluster_name}
use Rattle.sk_entry.specs.NumberedConstraint.{constraint_of}
use Rattle.sk_report.specs.PlanReport.{sign_text}
use Rattle.sk_report.specs.SolveReport.{numbers_text, spotted_words}

abbrev pub phase_word : Phase → List ℕ
phase_word Phase.Build = codes "build"
phase_word Phase.First = codes "first"
phase_word Phase.Second = codes "second"

-- what the quantity was, and its ends where it has some
abbrev pub cause_words : Cause → List ℕ
cause_words (Cause.Flat lo hi) = codes " flat" ++ numbers_text (lo ∷ hi ∷ [])
cause_words (Cause.Gap lo hi) = codes " gap" ++ numbers_text (lo ∷ hi ∷ [])
cause_words Cause.Range = codes " range"

-- the step, what it was at, and the quantity
abbrev pub fault_head : StepFault → List ℕ
fault_head f = codes "fault " ++ (cluster_name f.step ++ (codes " " ++ (phase_word f.phase ++ (codes " " ++ word_of f.what))))

abbrev pub bits_words : ℕ → List ℕ
bits_words bits = codes " bits " ++ (decimal bits ++ codes "\n")

-- the fault of a step on that grid
abbrev pub fault_line : Sketch → StepFault → ℕ → List ℕ
fault_line s f bits = ((fault_head f ++ 32 ∷ name_of s f.elem) ++ cause_words f.cause) ++ bits_words bits

-- the fault of a box that is carried to the drawing, on that grid
abbrev pub frame_fault_line : Sketch → BoxFault → ℕ → List ℕ
frame_fault_line s f bits = (((codes "fault frame " ++ word_of f.what) ++ 32 ∷ name_of s f.elem) ++ cause_words f.cause) ++ bits_words bits

-- lengths, heights and the places of blocks are told in nanometres, angles in parts per 10^9
abbrev pub rule_unit : Rule → List ℕ
rule_unit (Rule.Distance u v len) = codes "nm"
rule_unit (Rule.On u v) = codes "nm"
rule_unit (Rule.Tangent u v) = codes "nm"
rule_unit (Rule.Outside u v) = codes "nm"
rule_unit (Rule.Inside u v) = codes "nm"
rule_unit (Rule.Angle l m ratio) = codes "ppb"
rule_unit (Rule.Block pins) = codes "nm"

abbrev pub constraint_unit : Option Constraint → List ℕ
constraint_unit None = codes "nm"
constraint_unit (Some constraint) = rule_unit constraint.rule

abbrev pub spotted_unit : Sketch → Spotted → List ℕ
spotted_unit s (Spotted.Con k) = constraint_unit (constraint_of s k)
spotted_unit s (Spotted.Line e) = codes "ppb"

-- the constraint or the line that passes the limit
abbrev pub passed_line : Sketch → Beyond → List ℕ
passed_line s b =
    codes "fault " ++ (spotted_words s b.at ++ (codes " tolerance " ++ (decimal b.least ++ (codes " "
    ++ (spotted_unit s b.at ++ (codes " limit " ++ (decimal b.limit ++ codes "\n")))))))

-- the sign that isn't placed as drawn
abbrev pub turned_line : Turned → List ℕ
turned_line t =
    codes "fault " ++ (cluster_name t.at ++ (codes " turned drawn " ++ (sign_text t.drawn ++ (codes " placed " ++ (whole_text t.placed ++ codes "\n")))))
