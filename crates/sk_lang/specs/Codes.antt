-- The codes of a line, in their order.
use Rattle.std.specs.Prelude.{ℕ, Bool, true, not, List, [], ◌∷◌, ◌++◌, drop, Option, Some, None, is_none, codes, bytes_eq}
use Rattle.sk_base.specs.declared.Sketch.{Sketch}
use Rattle.sk_lines.specs.declared.Keyword.{Keyword}
use Rattle.sk_lines.specs.declared.Code.{Code}
use Rattle.sk_lines.specs.declared.Code.TheVariants.{E1, E2, E3, E17, E18}
use Rattle.sk_lang.specs.declared.progress.Progress.{Progress}
use Rattle.sk_lang.specs.declared.progress.Progress.TheVariants.{Before, Within, After}
use Rattle.sk_lines.specs.FirstCode.{first_code}
use Rattle.sk_lang.specs.Header.{version_in, words_at}
use Rattle.sk_lines.specs.Keywords.{keyword_of}
use Rattle.sk_lines.specs.ByteCodes.{byte_rows}
use Rattle.sk_lines.specs.EndLine.{is_none_left}
use Rattle.sk_entry.specs.EntryCodes.{entry_rows}

-- the codes of a line whose first word is no keyword
abbrev pub other_rows : Sketch → List (List ℕ) → List (Bool × Code)
other_rows s [] = []
other_rows s (first ∷ rest) =
    (not (bytes_eq first (codes "end")), E2) ∷
    (not (is_none_left rest), E3) ∷
    (is_none_left s.elements, E18) ∷ []

-- the codes of a line with words within a sketch
abbrev pub rows_within : Sketch → Option Keyword → List (List ℕ) → List (Bool × Code)
rows_within s (Some k) words = entry_rows s k (drop 1 words)
rows_within s None words = other_rows s words

-- the codes of a line with words
abbrev pub word_rows : Progress → List (List ℕ) → List (Bool × Code)
word_rows progress [] = []
word_rows Before (first ∷ rest) = (is_none (version_in (first ∷ rest)), E1) ∷ []
word_rows (Within v s) (first ∷ rest) = rows_within s (keyword_of v first) (first ∷ rest)
word_rows (After v s) (first ∷ rest) = (true, E17) ∷ []

-- the code of a line
abbrev pub code_of : Progress → List ℕ → Option Code
code_of progress line = first_code (byte_rows line ++ word_rows progress (words_at progress line))
