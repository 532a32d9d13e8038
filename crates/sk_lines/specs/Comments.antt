-- Comments, and the words that stand before them.
use Rattle.std.specs.Prelude.{ℕ, Bool, ◌==◌, List}
use Rattle.std.specs.List.{before_first}
use Rattle.sk_lines.specs.Words.{words_in}
use Rattle.sk_lines.specs.declared.version.Version.{Version}
use Rattle.sk_lines.specs.declared.version.Version.TheVariants.{One, Two}

abbrev pub is_hash : ℕ → Bool
is_hash b = b == 35

-- the line without its comment, which in version 2 is a `#` and all behind it
abbrev pub before_comment : Version → List ℕ → List ℕ
before_comment One line = line
before_comment Two line = before_first is_hash line

-- the words of a line
abbrev pub words_under : Version → List ℕ → List (List ℕ)
words_under version line = words_in (before_comment version line)
