-- Where the reading stands behind a line.
use Rattle.std.specs.Prelude.{ℕ, ◌+◌, List, [], ◌∷◌, length, Option, Some, None, unwrap_or}
use Rattle.sk_base.specs.declared.Elem.{Elem}
use Rattle.sk_base.specs.declared.ConId.{ConId}
use Rattle.sk_base.specs.declared.Sketch.{Sketch}
use Rattle.sk_lines.specs.declared.Version.{Version}
use Rattle.sk_lines.specs.declared.Version.TheVariants.{One}
use Rattle.sk_lines.specs.declared.Keyword.{Keyword}
use Rattle.sk_lang.specs.declared.progress.Progress.{Progress}
use Rattle.sk_lang.specs.declared.progress.Progress.TheVariants.{Before, Within, After}
use Rattle.sk_lang.specs.Header.{version_in, words_at}
use Rattle.sk_lines.specs.Keywords.{keyword_of}
use Rattle.sk_entry.specs.Growth.{empty_sketch}
use Rattle.sk_entry.specs.Meaning.{entry_made, added}

abbrev pub next_elem : Sketch → Elem
next_elem s = record { 0 = length s.elements + 1 }

abbrev pub next_con : Sketch → ConId
next_con s = record { 0 = length s.constraints + 1 }

abbrev pub progress_within : Version → Sketch → Option Keyword → List (List ℕ) → Progress
progress_within v s (Some k) rest = Within v (added s (entry_made s k rest (next_elem s) (next_con s)))
progress_within v s None rest = After v s

abbrev pub progress_after_words : Progress → List (List ℕ) → Progress
progress_after_words progress [] = progress
progress_after_words Before (first ∷ rest) = Within (unwrap_or (version_in (first ∷ rest)) One) empty_sketch
progress_after_words (Within v s) (first ∷ rest) = progress_within v s (keyword_of v first) rest
progress_after_words (After v s) (first ∷ rest) = After v s

-- where the line after this one stands
abbrev pub progress_after : Progress → List ℕ → Progress
progress_after progress line = progress_after_words progress (words_at progress line)

-- how many elements and constraints there are
abbrev pub size_of : Progress → ℕ
size_of Before = 0
size_of (Within v s) = length s.elements + length s.constraints
size_of (After v s) = length s.elements + length s.constraints
