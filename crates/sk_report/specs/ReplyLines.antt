-- What the lines of a session are answered.
use Rattle.std.specs.Prelude.{ℕ, List, [], ◌∷◌, ◌++◌, codes}
use Rattle.std.specs.Fmt.{decimal}
use Rattle.sk_base.specs.declared.ConId.{ConId}
use Rattle.sk_base.specs.declared.Elem.{Elem}
use Rattle.sk_base.specs.declared.Sketch.{Sketch}
use Rattle.sk_lines.specs.declared.Code.{Code}
use Rattle.sk_base.specs.ElementNames.{name_of}
use Rattle.sk_lines.specs.CodeTexts.{code_text, code_word}

-- to a change or an undo
abbrev pub done_line : List ℕ
done_line = codes "ok\n"

-- to an element line
abbrev pub declared_line : Sketch → Elem → List ℕ
declared_line s e = (codes "ok" ++ 32 ∷ name_of s e) ++ 10 ∷ []

-- to a constraint line
abbrev pub constrained_line : ConId → List ℕ
constrained_line k = codes "ok c" ++ (decimal k.0 ++ codes "\n")

-- to a line with a code
abbrev pub refused_line : Code → List ℕ
refused_line code = codes "refused " ++ (code_text code ++ (codes " " ++ (code_word code ++ codes "\n")))
