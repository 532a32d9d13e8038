-- The header of a text, which names its version.
use Rattle.std.specs.Prelude.{ℕ, List, [], ◌∷◌, Option, Some, None, codes, bytes_eq, if◌then◌else◌}
use Rattle.sk_lines.specs.declared.Version.{Version}
use Rattle.sk_lines.specs.declared.Version.TheVariants.{One, Two}
use Rattle.sk_lang.specs.declared.progress.Progress.{Progress}
use Rattle.sk_lang.specs.declared.progress.Progress.TheVariants.{Before, Within, After}
use Rattle.sk_lines.specs.Comments.{words_under}

abbrev pub version_of : List ℕ → Option Version
version_of word =
    if bytes_eq word (codes "1") then Some One else
    if bytes_eq word (codes "2") then Some Two else None

-- the version that the words of a header name
abbrev pub version_in : List (List ℕ) → Option Version
version_in (first ∷ second ∷ []) = if bytes_eq first (codes "sketch") then version_of second else None
version_in _ = None

-- the version of the lines that stand here; up to the header there are no comments
abbrev pub version_at : Progress → Version
version_at Before = One
version_at (Within v s) = v
version_at (After v s) = v

-- the words of a line that stands here
abbrev pub words_at : Progress → List ℕ → List (List ℕ)
words_at progress line = words_under (version_at progress) line
