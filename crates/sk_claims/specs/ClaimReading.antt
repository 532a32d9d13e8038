-- What the text behind a sketch is read as a claim, and where it is refused.
use Rattle.std.specs.Prelude.{◌≡◌, ⊤, ℕ, ◌+◌, List, [], length, Some, None}
use Rattle.sk_base.specs.declared.Sketch.{Sketch}
use Rattle.sk_lines.specs.Words.{words_in}
use Rattle.sk_claims.specs.ClaimLines.{word_rows, code_of, claimed_with}
use Rattle.sk_claims.specs.declared.claim.Claim.{Claim}
use Rattle.sk_claims.specs.declared.claim_line.SoFar.{SoFar}
use Rattle.sk_lines.specs.ByteCodes.{byte_rows}
use Rattle.sk_lines.specs.FirstCode.{first_code}
use Rattle.sk_lines.specs.LineCodes.{along, HaveNone, HasFirst}
use Rattle.sk_lines.specs.Lines.{lines_in}
use Rattle.sk_lines.specs.declared.Code.{Code}
use Rattle.sk_lines.specs.declared.Code.TheVariants.{E16}
use Rattle.sk_lines.specs.declared.ReadError.{ReadError}
use Rattle.sk_lines.specs.declared.ReadError.TheVariants.{Refused, NoMemory}

abbrev pub nothing_yet : SoFar
nothing_yet = record { steps = []; at = record { spots = [] }; radii = []; tolerances = None }

-- what is claimed with one more line
abbrev pub claimed_after : Sketch → SoFar → List ℕ → SoFar
claimed_after s c line = claimed_with s c (words_in line)

-- what the lines claim
abbrev pub claimed_along : Sketch → SoFar → List (List ℕ) → SoFar
claimed_along s c lines = along (claimed_after s) c lines

-- no line has a code, each behind those before it
abbrev pub HaveNoCode : Sketch → SoFar → List (List ℕ) → Type 0
HaveNoCode s c lines = HaveNone (code_of s) (claimed_after s) c lines

-- the lines before this one have no code, and it has one behind them
abbrev pub HasFirstCode : Sketch → List (List ℕ) → List (List ℕ) → List ℕ → Code → Type 0
HasFirstCode s lines before line code = HasFirst (code_of s) (claimed_after s) nothing_yet lines before line code

-- the claim is what was read, with its tolerances
pub record IsClaimOf (c : SoFar) (claim : Claim) : Type 0 where
  pub steps : claim.steps ≡ c.steps
  pub at : claim.at ≡ c.at
  pub radii : claim.radii ≡ c.radii
  pub tolerances : c.tolerances ≡ Some (record { t = claim.t; w = claim.w })

-- The text is read as the claim.
pub record ReadsClaim (s : Sketch) (bytes : List ℕ) (claim : Claim) : Type 0 where
  pub clean : HaveNoCode s nothing_yet (lines_in bytes)
  pub read : IsClaimOf (claimed_along s nothing_yet (lines_in bytes)) claim

-- The text, before which so many lines stand, is refused, on a line and with a code.
pub data RefusesClaim (s : Sketch) (first : ℕ) (bytes : List ℕ) : ℕ → Code → Type 0 where
  AtLine : (before : List (List ℕ)) (line : List ℕ) (code : Code) → HasFirstCode s (lines_in bytes) before line code
      → RefusesClaim s first bytes (first + length before + 1) code
  NoTolerances : HaveNoCode s nothing_yet (lines_in bytes) → (claimed_along s nothing_yet (lines_in bytes)).tolerances ≡ None
      → RefusesClaim s first bytes (first + length (lines_in bytes) + 1) E16

-- the error is a refusal of the text, or memory ran out
abbrev pub IsClaimRefusal : Sketch → ℕ → List ℕ → ReadError → Type 0
IsClaimRefusal s first bytes (Refused refusal) = RefusesClaim s first bytes refusal.line refusal.code
IsClaimRefusal s first bytes NoMemory = ⊤

-- The words have no code where they stand, and what they say is claimed.
pub record AddsWords (s : Sketch) (so_far : SoFar) (words : List (List ℕ)) (after : SoFar) : Type 0 where
  pub clean : first_code (word_rows s so_far words) ≡ None
  pub claimed : after ≡ claimed_with s so_far words

-- The line has no code where it stands, and what it says is claimed.
pub record Adds (s : Sketch) (so_far : SoFar) (line : List ℕ) (after : SoFar) : Type 0 where
  pub fine : first_code (byte_rows line) ≡ None
  pub words : AddsWords s so_far (words_in line) after
