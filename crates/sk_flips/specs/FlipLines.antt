-- What a line among the flips says, and its codes.
use Rattle.std.specs.Prelude.{ℕ, Bool, true, nat_lt, nat_le, List, [], ◌∷◌, ◌++◌, length, map, Option, Some, None, is_none, unwrap_or, option_and_then, codes, bytes_eq, if◌then◌else◌}
use Rattle.std.specs.List.{list_any}
use Rattle.sk_base.specs.declared.Name.{Name}
use Rattle.sk_base.specs.declared.Name.TheVariants.{Con, Step}
use Rattle.sk_lines.specs.Words.{words_in}
use Rattle.sk_lines.specs.declared.Code.{Code}
use Rattle.sk_lines.specs.declared.Code.TheVariants.{E3, E4, E10, E17, E21}
use Rattle.sk_lines.specs.ClusterWords.{cluster_named, has_twins}
use Rattle.sk_lines.specs.ByteCodes.{byte_rows}
use Rattle.sk_lines.specs.FirstCode.{first_code}
use Rattle.sk_lines.specs.EndLine.{end_rows}
use Rattle.sk_flips.specs.declared.flip_line.Place.{Place}
use Rattle.sk_flips.specs.declared.flip_line.Place.TheVariants.{Among, Past}
use Rattle.sk_flips.specs.declared.flip_line.SoFar.{SoFar}

abbrev pub if_step : Name → Option Name
if_step (Con k) = None
if_step (Step k) = Some (Step k)

-- the step that a word names: `s` and a number from 1 to 999999
abbrev pub step_of : List ℕ → Option Name
step_of word = option_and_then if_step (cluster_named word)

-- the step, where the word names one
abbrev pub step_named : List ℕ → Name
step_named word = unwrap_or (step_of word) (Step 0)

-- E4: the word doesn't name a step
abbrev pub is_no_step : List ℕ → Bool
is_no_step word = is_none (step_of word)

-- the codes of the words behind `flip`, in their order, where these flips stand already
abbrev pub flip_rows : List (List Name) → List (List ℕ) → List (Bool × Code)
flip_rows flips names =
    (nat_lt 16 (length names), E3) ∷
    (list_any is_no_step names, E4) ∷
    (has_twins (map step_named names), E10) ∷
    (nat_le 64 (length flips), E21) ∷ []

-- the codes of a line with words
abbrev pub rows_at : Place → List (List Name) → List (List ℕ) → List (Bool × Code)
rows_at place flips [] = []
rows_at Among flips (first ∷ rest) = if bytes_eq first (codes "flip") then flip_rows flips rest else end_rows first rest
rows_at Past flips (first ∷ rest) = (true, E17) ∷ []

abbrev pub word_rows : SoFar → List (List ℕ) → List (Bool × Code)
word_rows so_far words = rows_at so_far.place so_far.flips words

-- the code of a line
abbrev pub code_of : SoFar → List ℕ → Option Code
code_of so_far line = first_code (byte_rows line ++ word_rows so_far (words_in line))

-- what words add that have no code: the steps that they name behind `flip`, or the end
abbrev pub added_at : Place → List (List Name) → List (List ℕ) → SoFar
added_at place flips [] = record { place = place; flips = flips }
added_at Among flips (first ∷ rest) = if bytes_eq first (codes "flip") then record { place = Among; flips = flips ++ map step_named rest ∷ [] } else record { place = Past; flips = flips }
added_at Past flips (first ∷ rest) = record { place = Past; flips = flips }

abbrev pub with_words : SoFar → List (List ℕ) → SoFar
with_words so_far words = added_at so_far.place so_far.flips words

-- what was read behind a line without a code
abbrev pub with_line : SoFar → List ℕ → SoFar
with_line so_far line = with_words so_far (words_in line)
