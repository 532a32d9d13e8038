-- What is heard of an input that comes piece by piece.
use Rattle.std.specs.Prelude.{◌≡◌, ◌⊎◌, ◌≤◌, ◌<◌, ◌+◌, ℕ, false, List, [], ◌∷◌, ◌++◌, length, take, All, Option}
use Rattle.std.specs.Io.KnownBytes.{Appends, Consumes, IsAtEnd}
use Rattle.sk_io.specs.Transfer.{AppendsFront}
use Rattle.sk_lines.specs.Lines.{is_line_feed, lines_in, EndsLine}
use Rattle.sk_live_lines.specs.declared.ending.TurnEnd.{TurnEnd}
use Rattle.sk_live_lines.specs.declared.ending.TurnEnd.TheVariants.{Done, WriteFault, NoMemory}
use Rattle.sk_live_lines.specs.Answering.{AreAnswered, AnswersSome, EndsAtLine, Ends, IsTold}
use Rattle.sk_live_lines.specs.InTime.{in_time}

-- what is kept of the line that is being heard, and how many bytes were taken
pub record Heard : Type 0 where
  pub kept : List ℕ
  pub taken : ℕ

-- These bytes were taken. They are whole lines, all of them answered, this being the text of the replies, and the front of one more
-- line, of which so much is kept as tells whether it is too long.
pub record HasHeard {X : Type 0} (replies : X → List ℕ → X → List ℕ → Type 0) (first : X) (taken kept : List ℕ) (now : X) (text : List ℕ) : Type 0 where
  pub lines : List ℕ
  pub line : List ℕ
  pub cut : taken ≡ lines ++ line
  pub whole : EndsLine lines
  pub solid : All (λ b. is_line_feed b ≡ false) line
  pub kept_is : kept ≡ take 202 line
  pub answered : AreAnswered replies first (lines_in lines) now text

-- whatever was taken before, with these bytes behind it all lines that end are answered, their replies being what the sink gained
abbrev pub GoesOn : {X : Type 0} → (X → List ℕ → X → List ℕ → Type 0) → List ℕ → X → Option (List ℕ) → List ℕ → X → Option (List ℕ) → List ℕ → Type 0
GoesOn {X = X} replies kept old before kept_now new now bytes =
    (first : X) (taken text : List ℕ) → HasHeard replies first taken kept old text
    → (more : List ℕ) × Appends before now more × HasHeard replies first (taken ++ bytes) kept_now new (text ++ more)

-- whatever was taken before, not more than there may be with these bytes behind it, this is how it ends, however the input goes on
abbrev pub EndsHeard : {X : Type 0} → (X → List ℕ → X → List ℕ → Type 0) → (X → List ℕ → Type 0) → List ℕ → X → Option (List ℕ) → Option (List ℕ) → List ℕ → TurnEnd → Type 0
EndsHeard {X = X} replies ends kept old before now bytes end =
    (first : X) (taken text rest : List ℕ) → HasHeard replies first taken kept old text → length (taken ++ bytes) ≤ 4294967295
    → (more : List ℕ) × Appends before now more × Ends replies ends first (taken ++ (bytes ++ rest)) end (text ++ more)

-- whatever was taken before, a line ends it whose line feed is among these bytes
abbrev pub EndsAmong : {X : Type 0} → (X → List ℕ → X → List ℕ → Type 0) → (X → List ℕ → Type 0) → List ℕ → X → Option (List ℕ) → Option (List ℕ) → List ℕ → Type 0
EndsAmong {X = X} replies ends kept old before now bytes =
    (first : X) (taken text : List ℕ) → HasHeard replies first taken kept old text
    → (more : List ℕ) × (behind : List ℕ) × Appends before now more × EndsAtLine replies ends first (taken ++ bytes) (text ++ more) behind × (length behind < length bytes)

-- whatever lines of the input are answered, the text of their replies has no more bytes
abbrev pub AreWithin : {X : Type 0} → (X → List ℕ → X → List ℕ → Type 0) → X → List ℕ → ℕ → Type 0
AreWithin replies first bytes most = (text : List ℕ) → AnswersSome replies first (lines_in (in_time bytes)) text → length text ≤ most

-- these bytes were taken, and beside the replies so far there is room for what is still to come of so many bytes
abbrev pub HasRoom : {X : Type 0} → (X → List ℕ → X → List ℕ → Type 0) → X → List ℕ → List ℕ → X → ℕ → ℕ → Type 0
HasRoom replies first taken kept now most room = (text : List ℕ) × HasHeard replies first taken kept now text × (most ≤ room + length text)

-- where there was room for all replies to an input that begins with what was taken before and these bytes, there is still
abbrev pub KeepsRoom : {X : Type 0} → (X → List ℕ → X → List ℕ → Type 0) → List ℕ → X → ℕ → List ℕ → X → ℕ → List ℕ → Type 0
KeepsRoom {X = X} replies kept old room kept_now new room_now bytes =
    (first : X) (taken rest : List ℕ) (most : ℕ) → length (taken ++ bytes) ≤ 4294967295 → AreWithin replies first (taken ++ (bytes ++ rest)) most
    → HasRoom replies first taken kept old most room → HasRoom replies first (taken ++ bytes) kept_now new most room_now

-- there is room for all replies to an input that begins with what was taken before and these bytes
abbrev pub IsRoomy : {X : Type 0} → (X → List ℕ → X → List ℕ → Type 0) → List ℕ → X → ℕ → List ℕ → Type 0
IsRoomy {X = X} replies kept old room bytes =
    (first : X) × (taken : List ℕ) × (rest : List ℕ) × (most : ℕ) × (length (taken ++ bytes) ≤ 4294967295)
    × AreWithin replies first (taken ++ (bytes ++ rest)) most × HasRoom replies first taken kept old most room

-- a front that isn't empty was taken off
pub record IsLeft (bytes front after : List ℕ) : Type 0 where
  pub cut : bytes ≡ front ++ after
  pub some : 0 < length front

-- the bytes in front of the first line feed, and those behind it
pub record IsCut (bytes front after : List ℕ) : Type 0 where
  pub cut : bytes ≡ (front ++ 10 ∷ []) ++ after
  pub solid : All (λ b. is_line_feed b ≡ false) front

-- how it stops at a line
abbrev pub Stops : {X : Type 0} → (X → List ℕ → X → List ℕ → Type 0) → (X → List ℕ → Type 0) → X → List ℕ → Option (List ℕ) → Option (List ℕ) → TurnEnd → Type 0
Stops replies ends old line before now Done = ends old line × Appends before now []
Stops replies ends old line before now NoMemory = Appends before now []
Stops {X = X} replies ends old line before now WriteFault = (new : X) × (text : List ℕ) × replies old line new text × AppendsFront before now text
Stops replies ends old line before now end = ⊥

-- a piece was taken off, and whatever was taken before, this is how it ends
abbrev pub EndsTurn : {X : Type 0} → (X → List ℕ → X → List ℕ → Type 0) → (X → List ℕ → Type 0) → X → List ℕ → List ℕ → Option (List ℕ) → Option (List ℕ) → Option (List ℕ) → Option (List ℕ) → TurnEnd → Type 0
EndsTurn replies ends first taken text left behind before now end =
    (piece : List ℕ) × (rest : List ℕ) × (more : List ℕ) × Consumes left behind piece × IsTold behind rest × Appends before now more
    × Ends replies ends first (taken ++ (piece ++ rest)) end (text ++ more)

-- a piece was taken off that has the line feed of the line that ends it; or the input is at its end, and nothing was taken
abbrev pub IsDone : {X : Type 0} → (X → List ℕ → X → List ℕ → Type 0) → (X → List ℕ → Type 0) → X → List ℕ → List ℕ → Option (List ℕ) → Option (List ℕ) → Option (List ℕ) → Option (List ℕ) → Type 0
IsDone replies ends first taken text left after before now =
    (piece : List ℕ) × (length piece ≤ 4096) × Consumes left after piece × (((piece ≡ []) × IsAtEnd after)
    ⊎ ((more : List ℕ) × (behind : List ℕ) × Appends before now more × EndsAtLine replies ends first (taken ++ piece) (text ++ more) behind × (length behind < length piece)))
