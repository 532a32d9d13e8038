-- The lines on what a drawing says too much, and against what.
use Rattle.std.specs.Prelude.{ℕ, List, ◌++◌, codes}
use Rattle.std.specs.List.{flat_map}
use Rattle.std.specs.Fmt.{decimal}
use Rattle.sk_base.specs.declared.ConId.{ConId}
use Rattle.sk_base.specs.declared.Sketch.{Sketch}
use Rattle.sk_report.specs.ExcessReport.{left_words}

-- how many parts are over
abbrev pub why_head : ℕ → List ℕ
why_head parts = codes "why " ++ (decimal parts ++ codes "\n")

-- a constraint by its number alone
abbrev pub because_word : ConId → List ℕ
because_word k = codes " c" ++ decimal k.0

-- the constraint by its number and its line, and those that it follows from
abbrev pub follows_line : Sketch → ConId → List ConId → List ℕ
follows_line s k because = ((left_words s k ++ codes " follows from") ++ flat_map because_word because) ++ codes "\n"
