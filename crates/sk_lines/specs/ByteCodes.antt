-- The codes of the bytes of a line.
use Rattle.std.specs.Prelude.{ℕ, Bool, List, [], ◌∷◌}
use Rattle.sk_lines.specs.Words.{is_too_long, has_wrong_byte}
use Rattle.sk_lines.specs.declared.code.Code.{Code}
use Rattle.sk_lines.specs.declared.code.Code.TheVariants.{E15, E19}

-- the codes of the bytes of a line
abbrev pub byte_rows : List ℕ → List (Bool × Code)
byte_rows line =
    (is_too_long line, E15) ∷
    (has_wrong_byte line, E19) ∷ []
