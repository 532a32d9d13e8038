-- What a text is read as, and where it is refused.
use Rattle.std.specs.Prelude.{◌≡◌, ℕ, ◌+◌, ◌<◌, ◌≤◌, ⊤, Bool, true, false, ◌&&◌, not, List, length}
use Rattle.std.specs.List.{list_all}
use Rattle.sk_base.specs.declared.Sketch.{Sketch}
use Rattle.sk_lines.specs.Words.{is_too_long, has_wrong_byte, words_in}
use Rattle.sk_lines.specs.declared.Code.{Code}
use Rattle.sk_lines.specs.declared.ReadError.{ReadError}
use Rattle.sk_lines.specs.declared.ReadError.TheVariants.{Refused, NoMemory}
use Rattle.sk_lines.specs.declared.Code.TheVariants.{E16, E18, E20}
use Rattle.sk_lines.specs.LineCodes.{along, HaveNone, HasFirst}
use Rattle.sk_lines.specs.Lines.{lines_in}
use Rattle.sk_lines.specs.declared.Version.{Version}
use Rattle.sk_lang.specs.declared.progress.Progress.{Progress}
use Rattle.sk_lang.specs.declared.progress.Progress.TheVariants.{Before, After}
use Rattle.sk_lang.specs.Codes.{code_of}
use Rattle.sk_lines.specs.EndLine.{is_none_left}
use Rattle.sk_lang.specs.Progress.{progress_after}

-- a line without words; one with too many bytes or a wrong byte counts as having a word
abbrev pub is_blank_line : List ℕ → Bool
is_blank_line line = not (is_too_long line) && not (has_wrong_byte line) && is_none_left (words_in line)

-- where the lines lead
abbrev pub progress_along : Progress → List (List ℕ) → Progress
progress_along progress lines = along progress_after progress lines

-- no line has a code, each where those before it lead
abbrev pub HaveNoCode : Progress → List (List ℕ) → Type 0
HaveNoCode progress lines = HaveNone code_of progress_after progress lines

-- the lines before this one have no code, and it has one where they lead
abbrev pub HasFirstCode : List (List ℕ) → List (List ℕ) → List ℕ → Code → Type 0
HasFirstCode lines before line code = HasFirst code_of progress_after Before lines before line code

abbrev pub has_ended : Progress → Bool
has_ended (After v s) = true
has_ended _ = false

-- The text is read as the sketch, in the version that its header names.
pub record Reads (bytes : List ℕ) (s : Sketch) : Type 0 where
  pub version : Version
  pub fits : length bytes ≤ 1048576
  pub clean : HaveNoCode Before (lines_in bytes)
  pub ended : progress_along Before (lines_in bytes) ≡ After version s

-- The text is refused, on a line and with a code.
pub data Refuses (bytes : List ℕ) : ℕ → Code → Type 0 where
  TooLong : 1048576 < length bytes → Refuses bytes 0 E20
  Empty : length bytes ≤ 1048576 → list_all is_blank_line (lines_in bytes) ≡ true → Refuses bytes 0 E18
  AtLine : length bytes ≤ 1048576 → list_all is_blank_line (lines_in bytes) ≡ false
      → (before : List (List ℕ)) (line : List ℕ) (code : Code) → HasFirstCode (lines_in bytes) before line code
      → Refuses bytes (length before + 1) code
  NoEnd : length bytes ≤ 1048576 → list_all is_blank_line (lines_in bytes) ≡ false
      → HaveNoCode Before (lines_in bytes) → has_ended (progress_along Before (lines_in bytes)) ≡ false
      → Refuses bytes (length (lines_in bytes) + 1) E16

-- the error is a refusal of the text, or memory ran out
abbrev pub IsRefusalOf : List ℕ → ReadError → Type 0
IsRefusalOf bytes (Refused refusal) = Refuses bytes refusal.line refusal.code
IsRefusalOf bytes NoMemory = ⊤
