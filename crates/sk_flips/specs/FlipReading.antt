-- What the text behind a sketch is read as, as flips, and where it is refused.
use Rattle.std.specs.Prelude.{◌≡◌, ⊤, ℕ, ◌+◌, Bool, true, List, [], length, None}
use Rattle.sk_base.specs.declared.Name.{Name}
use Rattle.sk_lines.specs.Words.{words_in}
use Rattle.sk_lines.specs.declared.Code.{Code}
use Rattle.sk_lines.specs.declared.Code.TheVariants.{E4, E16}
use Rattle.sk_lines.specs.declared.EntryError.{EntryError}
use Rattle.sk_lines.specs.declared.EntryError.TheVariants.{Refused, NoMemory}
use Rattle.sk_lines.specs.declared.ReadError.{ReadError}
use Rattle.sk_lines.specs.declared.ReadError.TheVariants as read
use Rattle.sk_lines.specs.ByteCodes.{byte_rows}
use Rattle.sk_lines.specs.FirstCode.{first_code}
use Rattle.sk_lines.specs.LineCodes.{along, HaveNone, HasFirst}
use Rattle.sk_lines.specs.Lines.{lines_in}
use Rattle.sk_flips.specs.declared.flip_line.Place.TheVariants.{Among, Past}
use Rattle.sk_flips.specs.declared.flip_line.SoFar.{SoFar}
use Rattle.sk_flips.specs.FlipLines.{word_rows, code_of, with_words, with_line}

-- these flips were read, and more may come
abbrev pub among : List (List Name) → SoFar
among flips = record { place = Among; flips = flips }

-- no flips are read yet
abbrev pub nothing_yet : SoFar
nothing_yet = among []

-- what the lines say
abbrev pub said_by : List (List ℕ) → SoFar
said_by lines = along with_line nothing_yet lines

-- no line has a code, each where those before it lead
abbrev pub HaveNoCode : List (List ℕ) → Type 0
HaveNoCode lines = HaveNone code_of with_line nothing_yet lines

-- the lines before this one have no code, and it has one where they lead
abbrev pub HasFirstCode : List (List ℕ) → List (List ℕ) → List ℕ → Code → Type 0
HasFirstCode lines before line code = HasFirst code_of with_line nothing_yet lines before line code

-- The text is read as these lists of steps.
pub record ReadsFlips (bytes : List ℕ) (lists : List (List Name)) : Type 0 where
  pub clean : HaveNoCode (lines_in bytes)
  pub said : said_by (lines_in bytes) ≡ record { place = Past; flips = lists }

-- The text, before which so many lines stand, is refused, on a line and with a code.
pub data RefusesFlips (first : ℕ) (bytes : List ℕ) : ℕ → Code → Type 0 where
  AtLine : (before : List (List ℕ)) (line : List ℕ) (code : Code) → HasFirstCode (lines_in bytes) before line code
      → RefusesFlips first bytes (first + length before + 1) code
  NoEnd : HaveNoCode (lines_in bytes) → (said_by (lines_in bytes)).place ≡ Among
      → RefusesFlips first bytes (first + length (lines_in bytes) + 1) E16

-- the error is a refusal of the text, or memory ran out
abbrev pub IsFlipRefusal : ℕ → List ℕ → ReadError → Type 0
IsFlipRefusal first bytes (read.Refused refusal) = RefusesFlips first bytes refusal.line refusal.code
IsFlipRefusal first bytes read.NoMemory = ⊤

-- The words have no code where they stand, and what they say is added.
pub record AddsWords (so_far : SoFar) (words : List (List ℕ)) (after : SoFar) : Type 0 where
  pub clean : first_code (word_rows so_far words) ≡ None
  pub added : after ≡ with_words so_far words

-- The line has no code where it stands, and what it says is added.
pub record Adds (so_far : SoFar) (line : List ℕ) (after : SoFar) : Type 0 where
  pub fine : first_code (byte_rows line) ≡ None
  pub words : AddsWords so_far (words_in line) after

-- a word doesn't name a step, or memory ran out
abbrev pub IsNameRefusal : Bool → EntryError → Type 0
IsNameRefusal some_bad (Refused code) = (some_bad ≡ true) × (code ≡ E4)
IsNameRefusal some_bad NoMemory = ⊤
