-- The line that ends what stands behind a sketch.
use Rattle.std.specs.Prelude.{ℕ, Bool, true, false, not, List, [], ◌∷◌, codes, bytes_eq}
use Rattle.sk_lines.specs.declared.code.Code.{Code}
use Rattle.sk_lines.specs.declared.code.Code.TheVariants.{E2, E3}

abbrev pub is_none_left : {X : Type 0} → List X → Bool
is_none_left [] = true
is_none_left (x ∷ xs) = false

-- the codes of a line that has to be `end`, by its first word and the others
abbrev pub end_rows : List ℕ → List (List ℕ) → List (Bool × Code)
end_rows first rest =
    (not (bytes_eq first (codes "end")), E2) ∷
    (not (is_none_left rest), E3) ∷ []

-- the same by all words of the line
abbrev pub ending_rows : List (List ℕ) → List (Bool × Code)
ending_rows [] = []
ending_rows (first ∷ rest) = end_rows first rest
