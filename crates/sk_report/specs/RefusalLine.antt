-- The refusal of a line.
use Rattle.std.specs.Prelude.{ℕ, List, ◌++◌, codes}
use Rattle.std.specs.Fmt.{decimal}
use Rattle.sk_lines.specs.declared.Refusal.{Refusal}
use Rattle.sk_lines.specs.CodeTexts.{code_text, code_word}

abbrev pub refusal_line : Refusal → List ℕ
refusal_line r =
    codes "refused line " ++ (decimal r.line ++ (codes " " ++ (code_text r.code ++ (codes " " ++ (code_word r.code ++ codes "\n")))))
