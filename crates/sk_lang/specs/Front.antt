-- A text that is read up to the `end` of its sketch.
use Rattle.std.specs.Prelude.{◌≡◌, ◌⊎◌, ◌≤◌, ◌+◌, ◌-◌, ℕ, ⊤, Bool, false, List, length, take}
use Rattle.sk_lines.specs.declared.Code.{Code}
use Rattle.sk_lines.specs.declared.ReadError.{ReadError}
use Rattle.sk_lines.specs.declared.ReadError.TheVariants.{Refused, NoMemory}
use Rattle.sk_lang.specs.declared.front.Front.{Front}
use Rattle.sk_lines.specs.declared.Code.TheVariants.{E16, E18}
use Rattle.sk_lang.specs.declared.progress.Progress.{Progress}
use Rattle.sk_lang.specs.declared.progress.Progress.TheVariants.{Before}
use Rattle.sk_lines.specs.Lines.{lines_in, EndsLine}
use Rattle.sk_lang.specs.Reading.{Reads, Refuses, has_ended, progress_along}

-- whether the sketch has ended within the first lines
abbrev pub has_ended_by : ℕ → List ℕ → Bool
has_ended_by count bytes = has_ended (progress_along Before (take count (lines_in bytes)))

-- The first bytes, which are whole lines, are read as the sketch, and its `end` is the last of these lines.
pub record ReadsFront (bytes : List ℕ) (front : Front) : Type 0 where
  pub fits : length bytes ≤ 1048576
  pub within : front.used ≤ length bytes
  pub whole : EndsLine (take front.used bytes) ⊎ (front.used ≡ length bytes)
  pub reads : Reads (take front.used bytes) front.sketch
  pub count : front.lines ≡ length (lines_in (take front.used bytes))
  pub last : has_ended_by (front.lines - 1) bytes ≡ false

-- The text is refused, and not on a line after the `end` of its sketch.
pub record RefusesFront (bytes : List ℕ) (line : ℕ) (code : Code) : Type 0 where
  pub refuses : Refuses bytes line code
  pub before_end : has_ended_by (line - 1) bytes ≡ false

-- the error is such a refusal, or memory ran out
abbrev pub IsFrontRefusal : List ℕ → ReadError → Type 0
IsFrontRefusal bytes (Refused refusal) = RefusesFront bytes refusal.line refusal.code
IsFrontRefusal bytes NoMemory = ⊤

-- the refusal of a text that ends before its sketch does
abbrev pub without_end : Progress → ℕ → ReadError
without_end Before lines = Refused (record { line = 0; code = E18 })
without_end _ lines = Refused (record { line = lines + 1; code = E16 })
