-- What a text is read as, computed line by line.
use Rattle.std.specs.Prelude.{ℕ, ◌+◌, List, [], ◌∷◌, length, Option, Some, None, Result, Ok, Err, if◌then◌else◌, nat_lt}
use Rattle.sk_base.specs.declared.Sketch.{Sketch}
use Rattle.sk_lines.specs.declared.Code.{Code}
use Rattle.sk_lines.specs.declared.Code.TheVariants.{E16, E18, E20}
use Rattle.sk_lines.specs.Lines.{lines_in}
use Rattle.sk_lang.specs.declared.progress.Progress.{Progress}
use Rattle.sk_lang.specs.declared.progress.Progress.TheVariants.{Before, Within, After}
use Rattle.sk_lang.specs.Codes.{code_of}
use Rattle.sk_lang.specs.Progress.{progress_after}

-- a sketch, or the line of a refusal and its code
abbrev pub Answer : Type 0
Answer = Result Sketch (ℕ × Code)

abbrev pub or_code : Option Code → ℕ → Answer → Answer
or_code None n rest = rest
or_code (Some code) n rest = Err (n, code)

-- what a text is read as whose lines lead here, n being the number of the line that would follow
abbrev pub at_end : Progress → ℕ → Answer
at_end Before n = Err (0, E18)
at_end (Within v s) n = Err (n, E16)
at_end (After v s) n = Ok s

-- what the lines from number n on are read as, where those before them lead
abbrev pub read_from : Progress → ℕ → List (List ℕ) → Answer
read_from progress n [] = at_end progress n
read_from progress n (line ∷ lines) = or_code (code_of progress line) n (read_from (progress_after progress line) (n + 1) lines)

abbrev pub reading : List ℕ → Answer
reading bytes = if nat_lt 1048576 (length bytes) then Err (0, E20) else read_from Before 1 (lines_in bytes)
