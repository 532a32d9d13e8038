-- The lines of a text.
use Rattle.std.specs.Prelude.{◌≡◌, ◌⊎◌, ℕ, Bool, ◌==◌, List, [], ◌∷◌, ◌++◌, map, if◌then◌else◌}
use Rattle.std.specs.List.{slice_split, flat_map}
use Rattle.std.specs.Str.Lines.{strip_carriage_return}
use Rattle.sk_lines.specs.Words.{is_empty}

abbrev pub is_line_feed : ℕ → Bool
is_line_feed b = b == 10

-- what stands after the last line feed is a line only where it isn't empty
abbrev pub without_empty_end : List (List ℕ) → List (List ℕ)
without_empty_end [] = []
without_empty_end (last ∷ []) = if is_empty last then [] else last ∷ []
without_empty_end (line ∷ next ∷ more) = line ∷ without_empty_end (next ∷ more)

-- the parts round the line feeds, each without the one carriage return at its end
abbrev pub lines_in : List ℕ → List (List ℕ)
lines_in bytes = map strip_carriage_return (without_empty_end (slice_split is_line_feed bytes))

-- each line with its line feed
abbrev pub ended_lines : List (List ℕ) → List ℕ
ended_lines lines = flat_map (λ line. line ++ 10 ∷ []) lines

-- a line feed stands at the end, or nothing at all
abbrev pub EndsLine : List ℕ → Type 0
EndsLine bytes = (bytes ≡ []) ⊎ ((before : List ℕ) × (bytes ≡ before ++ 10 ∷ []))

-- the text is this one line, with its line feed where anything follows, and then the rest
pub record IsFirstLine (bytes line rest : List ℕ) : Type 0 where
  pub taken : List ℕ
  pub cut : bytes ≡ taken ++ rest
  pub only : lines_in taken ≡ line ∷ []
  pub ends : EndsLine taken ⊎ (rest ≡ [])
