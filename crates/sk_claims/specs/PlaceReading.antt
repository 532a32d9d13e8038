-- What the text behind a sketch is read as, as places, and where it is refused.
use Rattle.std.specs.Prelude.{◌≡◌, ⊤, ℕ, ◌+◌, List, [], length, None}
use Rattle.sk_base.specs.declared.Sketch.{Sketch}
use Rattle.sk_lines.specs.Words.{words_in}
use Rattle.sk_lines.specs.declared.Code.{Code}
use Rattle.sk_lines.specs.declared.Code.TheVariants.{E16}
use Rattle.sk_lines.specs.declared.ReadError.{ReadError}
use Rattle.sk_lines.specs.declared.ReadError.TheVariants.{Refused, NoMemory}
use Rattle.sk_lines.specs.ByteCodes.{byte_rows}
use Rattle.sk_lines.specs.FirstCode.{first_code}
use Rattle.sk_lines.specs.LineCodes.{along, HaveNone, HasFirst}
use Rattle.sk_lines.specs.Lines.{lines_in}
use Rattle.sk_claims.specs.declared.claim.Claim.{Claim}
use Rattle.sk_claims.specs.declared.claim_line.SoFar.{SoFar}
use Rattle.sk_claims.specs.declared.place_line.PlacesSoFar.{PlacesSoFar}
use Rattle.sk_claims.specs.declared.place_line.Stage.TheVariants.{Among, Past}
use Rattle.sk_claims.specs.ClaimReading.{nothing_yet as nothing_claimed}
use Rattle.sk_claims.specs.PlaceLines.{among, word_rows, code_of, with_words, with_line}

-- no place is read yet
abbrev pub nothing_yet : PlacesSoFar
nothing_yet = among nothing_claimed

-- what the lines say
abbrev pub said_by : Sketch → List (List ℕ) → PlacesSoFar
said_by s lines = along (with_line s) nothing_yet lines

-- no line has a code, each where those before it lead
abbrev pub HaveNoCode : Sketch → List (List ℕ) → Type 0
HaveNoCode s lines = HaveNone (code_of s) (with_line s) nothing_yet lines

-- the lines before this one have no code, and it has one where they lead
abbrev pub HasFirstCode : Sketch → List (List ℕ) → List (List ℕ) → List ℕ → Code → Type 0
HasFirstCode s lines before line code = HasFirst (code_of s) (with_line s) nothing_yet lines before line code

-- the places and radii that were read, as a claim without steps and within no tolerance
abbrev pub places_claimed : SoFar → Claim
places_claimed c = record { steps = []; at = c.at; radii = c.radii; t = 0; w = 0 }

-- The text is read as the places and radii of the claim.
pub record ReadsPlaces (s : Sketch) (bytes : List ℕ) (claim : Claim) : Type 0 where
  pub clean : HaveNoCode s (lines_in bytes)
  pub ended : (said_by s (lines_in bytes)).stage ≡ Past
  pub said : claim ≡ places_claimed (said_by s (lines_in bytes)).claim

-- The text, before which so many lines stand, is refused, on a line and with a code.
pub data RefusesPlaces (s : Sketch) (first : ℕ) (bytes : List ℕ) : ℕ → Code → Type 0 where
  AtLine : (before : List (List ℕ)) (line : List ℕ) (code : Code) → HasFirstCode s (lines_in bytes) before line code
      → RefusesPlaces s first bytes (first + length before + 1) code
  NoEnd : HaveNoCode s (lines_in bytes) → (said_by s (lines_in bytes)).stage ≡ Among
      → RefusesPlaces s first bytes (first + length (lines_in bytes) + 1) E16

-- the error is a refusal of the text, or memory ran out
abbrev pub IsPlacesRefusal : Sketch → ℕ → List ℕ → ReadError → Type 0
IsPlacesRefusal s first bytes (Refused refusal) = RefusesPlaces s first bytes refusal.line refusal.code
IsPlacesRefusal s first bytes NoMemory = ⊤

-- The words have no code where they stand, and what they say is read.
pub record AddsWords (s : Sketch) (so_far : PlacesSoFar) (words : List (List ℕ)) (after : PlacesSoFar) : Type 0 where
  pub clean : first_code (word_rows s so_far words) ≡ None
  pub read : after ≡ with_words s so_far words

-- The line has no code where it stands, and what it says is read.
pub record Adds (s : Sketch) (so_far : PlacesSoFar) (line : List ℕ) (after : PlacesSoFar) : Type 0 where
  pub fine : first_code (byte_rows line) ≡ None
  pub words : AddsWords s so_far (words_in line) after
