-- What a line among the places of elements says, and its codes.
use Rattle.std.specs.Prelude.{ℕ, Bool, true, List, [], ◌∷◌, ◌++◌, Option, Some, None}
use Rattle.sk_base.specs.declared.Sketch.{Sketch}
use Rattle.sk_lines.specs.Words.{words_in}
use Rattle.sk_lines.specs.declared.Code.{Code}
use Rattle.sk_lines.specs.declared.Code.TheVariants.{E17}
use Rattle.sk_lines.specs.ByteCodes.{byte_rows}
use Rattle.sk_lines.specs.FirstCode.{first_code}
use Rattle.sk_lines.specs.EndLine.{end_rows}
use Rattle.sk_claims.specs.declared.claim_line.SoFar.{SoFar}
use Rattle.sk_claims.specs.declared.first_word.First.TheVariants as begins
use Rattle.sk_claims.specs.declared.first_word.Figure.{Figure}
use Rattle.sk_claims.specs.declared.place_line.Stage.{Stage}
use Rattle.sk_claims.specs.declared.place_line.Stage.TheVariants.{Among, Past}
use Rattle.sk_claims.specs.declared.place_line.PlacesSoFar.{PlacesSoFar}
use Rattle.sk_claims.specs.ClaimLines.{figure_of, rows_behind, with_words as claim_with_words}

-- these places were read, and more may come
abbrev pub among : SoFar → PlacesSoFar
among c = record { stage = Among; claim = c }

-- and no more may come
abbrev pub past : SoFar → PlacesSoFar
past c = record { stage = Past; claim = c }

-- the codes of a line that places an element, as in a claim; another line has to be the end
abbrev pub placing_rows : Sketch → SoFar → Option Figure → List ℕ → List (List ℕ) → List (Bool × Code)
placing_rows s c (Some kind) first rest = rows_behind s c (Some (begins.Element kind)) rest
placing_rows s c None first rest = end_rows first rest

-- the codes of a line with words; nothing may follow the end
abbrev pub rows_at : Sketch → Stage → SoFar → List (List ℕ) → List (Bool × Code)
rows_at s stage c [] = []
rows_at s Among c (first ∷ rest) = placing_rows s c (figure_of first) first rest
rows_at s Past c (first ∷ rest) = (true, E17) ∷ []

abbrev pub word_rows : Sketch → PlacesSoFar → List (List ℕ) → List (Bool × Code)
word_rows s so_far words = rows_at s so_far.stage so_far.claim words

-- the code of a line
abbrev pub code_of : Sketch → PlacesSoFar → List ℕ → Option Code
code_of s so_far line = first_code (byte_rows line ++ word_rows s so_far (words_in line))

-- what is read with words that have no code: the place of one element more, or the end
abbrev pub placed_with : Sketch → SoFar → Option Figure → List (List ℕ) → PlacesSoFar
placed_with s c (Some kind) rest = among (claim_with_words s c (Some (begins.Element kind)) rest)
placed_with s c None rest = past c

abbrev pub read_at : Sketch → Stage → SoFar → List (List ℕ) → PlacesSoFar
read_at s stage c [] = record { stage = stage; claim = c }
read_at s Among c (first ∷ rest) = placed_with s c (figure_of first) rest
read_at s Past c (first ∷ rest) = past c

abbrev pub with_words : Sketch → PlacesSoFar → List (List ℕ) → PlacesSoFar
with_words s so_far words = read_at s so_far.stage so_far.claim words

-- what is read with one more line
abbrev pub with_line : Sketch → PlacesSoFar → List ℕ → PlacesSoFar
with_line s so_far line = with_words s so_far (words_in line)
