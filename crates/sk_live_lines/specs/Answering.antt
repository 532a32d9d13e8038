-- Lines that are answered in turn, and how that ends.
use Rattle.std.specs.Prelude.{◌≡◌, ◌≤◌, ◌<◌, ⊤, ℕ, List, [], ◌∷◌, ◌++◌, length, take, Option, None, Some}
use Rattle.sk_lines.specs.Lines.{lines_in, EndsLine}
use Rattle.sk_live_lines.specs.declared.ending.TurnEnd.{TurnEnd}
use Rattle.sk_live_lines.specs.declared.ending.TurnEnd.TheVariants.{Done, TooLong, WriteFault}
use Rattle.sk_live_lines.specs.InTime.{in_time}

-- where it is told what a source has left, it is these bytes
abbrev pub IsTold : Option (List ℕ) → List ℕ → Type 0
IsTold None bytes = ⊤
IsTold (Some left) bytes = bytes ≡ left

-- the lines are answered in turn, and this is the text of the replies, one behind another
abbrev pub AreAnswered : {X : Type 0} → (X → List ℕ → X → List ℕ → Type 0) → X → List (List ℕ) → X → List ℕ → Type 0
AreAnswered replies old [] new text = (new ≡ old) × (text ≡ [])
AreAnswered {X = X} replies old (line ∷ lines) new text =
    (next : X) × (first : List ℕ) × (rest : List ℕ) × replies old line next first × AreAnswered replies next lines new rest × (text ≡ first ++ rest)

-- some of the lines, from the first on, are answered, and this is the text of their replies
pub record AnswersSome {X : Type 0} (replies : X → List ℕ → X → List ℕ → Type 0) (first : X) (lines : List (List ℕ)) (text : List ℕ) : Type 0 where
  pub before : List (List ℕ)
  pub after : List (List ℕ)
  pub parts : lines ≡ before ++ after
  pub now : X
  pub answered : AreAnswered replies first before now text

-- no line is left, or the next one ends it
abbrev pub HasEnded : {X : Type 0} → (X → List ℕ → Type 0) → X → List (List ℕ) → Type 0
HasEnded ends now [] = ⊤
HasEnded ends now (line ∷ lines) = ends now line

-- A line with its line feed ends it: the lines before it are answered, this being the text of the replies, and this stands behind it.
pub record EndsAtLine {X : Type 0} (replies : X → List ℕ → X → List ℕ → Type 0) (ends : X → List ℕ → Type 0) (first : X) (bytes text behind : List ℕ) : Type 0 where
  pub front : List ℕ
  pub cut : bytes ≡ front ++ behind
  pub whole : EndsLine front
  pub before : List (List ℕ)
  pub last : List ℕ
  pub lines : lines_in front ≡ before ++ last ∷ []
  pub now : X
  pub answered : AreAnswered replies first before now text
  pub ended : ends now last

-- Each end says what was gained of an input: the replies to its lines up to the end, where it has one in time; those to all lines
-- in time, where it is too long; a front of the replies to some of them; or the whole replies to some of them.
abbrev pub Ends : {X : Type 0} → (X → List ℕ → X → List ℕ → Type 0) → (X → List ℕ → Type 0) → X → List ℕ → TurnEnd → List ℕ → Type 0
Ends replies ends first bytes Done gained =
    (some : AnswersSome replies first (lines_in (in_time bytes)) gained) × HasEnded ends some.now some.after × (some.after ≡ [] → length bytes ≤ 4294967295)
Ends replies ends first bytes TooLong gained =
    (some : AnswersSome replies first (lines_in (in_time bytes)) gained) × (some.after ≡ []) × (4294967295 < length bytes)
Ends replies ends first bytes WriteFault gained =
    (text : List ℕ) × (n : ℕ) × AnswersSome replies first (lines_in (in_time bytes)) text × (n ≤ length text) × (gained ≡ take n text)
Ends replies ends first bytes end gained = AnswersSome replies first (lines_in (in_time bytes)) gained
