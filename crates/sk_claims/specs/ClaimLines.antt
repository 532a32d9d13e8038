-- What a line of a claim says, and its codes.
use Rattle.std.specs.Prelude.{ℕ, ℤ, pos, Bool, true, false, ◌&&◌, ◌||◌, not, ◌==◌, List, [], ◌∷◌, ◌++◌, length, Option, Some, None, is_some, is_none, unwrap_or, option_and_then, codes, bytes_eq, if◌then◌else◌}
use Rattle.std.specs.List.{list_any, zip}
use Rattle.std.specs.Option.{option_map}
use Rattle.sk_base.specs.declared.At.TheVariants as at
use Rattle.sk_base.specs.declared.Element.{Element}
use Rattle.sk_base.specs.declared.Placed.{Placed}
use Rattle.sk_base.specs.declared.Shape.{Shape}
use Rattle.sk_base.specs.declared.Shape.TheVariants as shapes
use Rattle.sk_base.specs.declared.Sign.{Sign}
use Rattle.sk_base.specs.declared.Sign.TheVariants.{Plus, Minus}
use Rattle.sk_base.specs.declared.Sketch.{Sketch}
use Rattle.sk_base.specs.declared.Spot.{Spot}
use Rattle.sk_base.specs.Labels.{is_name}
use Rattle.sk_base.specs.Millimetres.{digits_of, at_most, has_sign, without_sign, with_sign}
use Rattle.sk_base.specs.Places.{place_of}
use Rattle.sk_lines.specs.Words.{words_in}
use Rattle.sk_lines.specs.declared.Code.{Code}
use Rattle.sk_lines.specs.declared.Code.TheVariants.{E2, E3, E4, E5, E6, E7, E8, E17}
use Rattle.sk_lines.specs.ClusterWords.{named, is_bad_name}
use Rattle.sk_lines.specs.ByteCodes.{byte_rows}
use Rattle.sk_lines.specs.FirstCode.{first_code}
use Rattle.sk_entry.specs.Named.{element_named, number_named}
use Rattle.sk_lines.specs.Quantities.{not_negative}
use Rattle.sk_tree.specs.declared.Choice.{Choice}
use Rattle.sk_tree.specs.declared.Choice.TheVariants.{Turn, Advance, Nothing}
use Rattle.sk_tree.specs.declared.PlanStep.{PlanStep}
use Rattle.sk_claims.specs.declared.claim.Radius.{Radius}
use Rattle.sk_claims.specs.declared.claim_line.SoFar.{SoFar}
use Rattle.sk_claims.specs.declared.claim_line.Tolerances.{Tolerances}
use Rattle.sk_claims.specs.declared.first_word.First.{First}
use Rattle.sk_claims.specs.declared.first_word.First.TheVariants as begins
use Rattle.sk_claims.specs.declared.first_word.Figure.{Figure}
use Rattle.sk_claims.specs.declared.first_word.Figure.TheVariants as figure

-- the whole number that a word is: an optional `-` and 1 to 19 digits, at most so much in absolute value
abbrev pub whole_of : ℕ → List ℕ → Option ℤ
whole_of most word = option_map (with_sign (has_sign word)) (at_most most (digits_of 19 (without_sign word)))

-- the same where the number isn't below 0
abbrev pub count_of : ℕ → List ℕ → Option ℕ
count_of most word = option_and_then not_negative (whole_of most word)

abbrev pub length_limit : ℕ
length_limit = 1152921504606846976

abbrev pub normal_limit : ℕ
normal_limit = 2000000000

abbrev pub tolerance_limit : ℕ
tolerance_limit = 4611686018427387904

-- the whole number, where the word is one
abbrev pub whole : ℕ → List ℕ → ℤ
whole most word = unwrap_or (whole_of most word) (pos 0)

-- the tolerance, where the word is one
abbrev pub tolerance : List ℕ → ℕ
tolerance word = unwrap_or (count_of tolerance_limit word) 0

abbrev pub sign_of : List ℕ → Option Sign
sign_of word = if bytes_eq word (codes "+") then Some Plus else (if bytes_eq word (codes "-") then Some Minus else None)

-- the choice that the last words of a step say
abbrev pub choice_of : List (List ℕ) → Option Choice
choice_of (word ∷ []) = if bytes_eq word (codes "none") then Some Nothing else None
choice_of (word ∷ sign ∷ []) =
    if bytes_eq word (codes "turn") then option_map Turn (sign_of sign)
    else (if bytes_eq word (codes "advance") then option_map Advance (sign_of sign) else None)
choice_of _ = None

-- the words that stand in each step
abbrev pub are_fixed : List ℕ → List ℕ → List ℕ → Bool
are_fixed joins at keeps = bytes_eq joins (codes "joins") && bytes_eq at (codes "at") && bytes_eq keeps (codes "keeps")

-- E4: a word in the place of an element's name isn't a name
abbrev pub is_no_name : List ℕ → Bool
is_no_name word = not (is_name word)

-- E6: the name isn't declared
abbrev pub is_unknown : Sketch → List ℕ → Bool
is_unknown s word = is_none (element_named s word)

-- one or two words say a choice
abbrev pub is_choice_long : List (List ℕ) → Bool
is_choice_long choice = (length choice == 1) || (length choice == 2)

-- the codes of the names of elements in a step
abbrev pub corner_rows : Sketch → List (List ℕ) → List (Bool × Code)
corner_rows s corners =
    (list_any is_no_name corners, E4) ∷
    (list_any (is_unknown s) corners, E6) ∷ []

-- the codes of the words behind `step`, of which there are 12, or 13 where a sign stands at the end
abbrev pub step_rows : Sketch → List (List ℕ) → List (Bool × Code)
step_rows s (name ∷ joins ∷ x ∷ y ∷ z ∷ at ∷ a ∷ b ∷ c ∷ keeps ∷ kept ∷ choice) =
    (not (is_choice_long choice), E3) ∷
    (not (are_fixed joins at keeps) || is_none (choice_of choice), E2) ∷
    (list_any is_bad_name (name ∷ x ∷ y ∷ z ∷ kept ∷ []), E4) ∷
    corner_rows s (a ∷ b ∷ c ∷ [])
step_rows s _ = (true, E3) ∷ []

-- E7: the first word doesn't fit the element's shape
abbrev pub fits_shape : Figure → Shape → Bool
fits_shape figure.Point (shapes.Point x y) = true
fits_shape figure.Circle (shapes.Circle x y r) = true
fits_shape figure.Line (shapes.Line x1 y1 x2 y2) = true
fits_shape _ _ = false

abbrev pub fits_element : Figure → Option Element → Bool
fits_element kind (Some element) = fits_shape kind element.shape
fits_element kind None = false

-- the limits of the numbers behind the name
abbrev pub limits_of : Figure → List ℕ
limits_of figure.Point = length_limit ∷ length_limit ∷ []
limits_of figure.Circle = length_limit ∷ length_limit ∷ length_limit ∷ []
limits_of figure.Line = normal_limit ∷ normal_limit ∷ length_limit ∷ []

-- E8: a word in a number's place isn't one, or passes its limit
abbrev pub is_bad_whole : ℕ × List ℕ → Bool
is_bad_whole (most, word) = is_none (whole_of most word)

-- E5: the element stands already
abbrev pub is_placed : Sketch → Placed → List ℕ → Bool
is_placed s at name = is_some (place_of at (number_named s name))

-- the codes of the name in an element line
abbrev pub name_rows : Sketch → Figure → List ℕ → List (Bool × Code)
name_rows s kind name =
    (is_no_name name, E4) ∷
    (is_unknown s name, E6) ∷
    (not (fits_element kind (element_named s name)), E7) ∷ []

-- the codes of the words behind the first of an element line
abbrev pub element_rows : Sketch → Placed → Figure → List (List ℕ) → List (Bool × Code)
element_rows s at kind [] = (true, E3) ∷ []
element_rows s at kind (name ∷ numbers) =
    (not (length numbers == length (limits_of kind)), E3) ∷
    name_rows s kind name ++
    (list_any is_bad_whole (zip (limits_of kind) numbers), E8) ∷
    (is_placed s at name, E5) ∷ []

-- the codes of the words behind `tolerance`
abbrev pub tolerance_rows : List (List ℕ) → List (Bool × Code)
tolerance_rows (t ∷ w ∷ []) = (is_none (count_of tolerance_limit t) || is_none (count_of tolerance_limit w), E8) ∷ []
tolerance_rows _ = (true, E3) ∷ []

-- what a line places by its first word
abbrev pub figure_of : List ℕ → Option Figure
figure_of word =
    if bytes_eq word (codes "point") then Some figure.Point
    else (if bytes_eq word (codes "circle") then Some figure.Circle
    else (if bytes_eq word (codes "line") then Some figure.Line else None))

-- what the first word of a line says of it
abbrev pub first_of : List ℕ → Option First
first_of word =
    if bytes_eq word (codes "step") then Some begins.Step
    else (if bytes_eq word (codes "tolerance") then Some begins.Tolerance else option_map begins.Element (figure_of word))

-- the codes of the words behind the first
abbrev pub rows_behind : Sketch → SoFar → Option First → List (List ℕ) → List (Bool × Code)
rows_behind s c None rest = (true, E2) ∷ []
rows_behind s c (Some begins.Step) rest = step_rows s rest
rows_behind s c (Some (begins.Element kind)) rest = element_rows s c.at kind rest
rows_behind s c (Some begins.Tolerance) rest = tolerance_rows rest

-- the codes of a line with words; nothing may follow the tolerances
abbrev pub word_rows : Sketch → SoFar → List (List ℕ) → List (Bool × Code)
word_rows s c [] = []
word_rows s c (first ∷ rest) = (is_some c.tolerances, E17) ∷ rows_behind s c (first_of first) rest

-- the code of a line
abbrev pub code_of : Sketch → SoFar → List ℕ → Option Code
code_of s c bytes = first_code (byte_rows bytes ++ word_rows s c (words_in bytes))

-- the step that the words say
abbrev pub step_said : Sketch → List (List ℕ) → List PlanStep
step_said s (name ∷ joins ∷ x ∷ y ∷ z ∷ at ∷ a ∷ b ∷ c ∷ keeps ∷ kept ∷ choice) = record {
  step = named name;
  one = named x;
  two = named y;
  three = named z;
  a = number_named s a;
  b = number_named s b;
  c = number_named s c;
  keeps = named kept;
  choice = unwrap_or (choice_of choice) Nothing;
} ∷ []
step_said s _ = []

-- the place that the words say
abbrev pub spot_said : Sketch → Figure → List (List ℕ) → List Spot
spot_said s figure.Line (name ∷ a ∷ b ∷ c ∷ rest) = record { elem = number_named s name; at = at.Line (whole normal_limit a) (whole normal_limit b) (whole length_limit c) } ∷ []
spot_said s figure.Point (name ∷ x ∷ y ∷ rest) = record { elem = number_named s name; at = at.Point (whole length_limit x) (whole length_limit y) } ∷ []
spot_said s figure.Circle (name ∷ x ∷ y ∷ rest) = record { elem = number_named s name; at = at.Point (whole length_limit x) (whole length_limit y) } ∷ []
spot_said s _ _ = []

-- the radius that the words say
abbrev pub radius_said : Sketch → Figure → List (List ℕ) → List Radius
radius_said s figure.Circle (name ∷ x ∷ y ∷ r ∷ rest) = record { elem = number_named s name; nm = whole length_limit r } ∷ []
radius_said s _ _ = []

-- the tolerances that the words say
abbrev pub tolerances_said : List (List ℕ) → Option Tolerances
tolerances_said (t ∷ w ∷ rest) = Some (record { t = tolerance t; w = tolerance w })
tolerances_said _ = None

-- what is claimed with the words behind the first
abbrev pub with_words : Sketch → SoFar → Option First → List (List ℕ) → SoFar
with_words s c None rest = c
with_words s c (Some begins.Step) rest = record c { steps = c.steps ++ step_said s rest }
with_words s c (Some (begins.Element kind)) rest = record c { at = record { spots = c.at.spots ++ spot_said s kind rest }; radii = c.radii ++ radius_said s kind rest }
with_words s c (Some begins.Tolerance) rest = record c { tolerances = tolerances_said rest }

-- what is claimed with the words of a line that has no code
abbrev pub claimed_with : Sketch → SoFar → List (List ℕ) → SoFar
claimed_with s c [] = c
claimed_with s c (first ∷ rest) = with_words s c (first_of first) rest
