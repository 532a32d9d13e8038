-- What one line says within a sketch.
use Rattle.std.specs.Prelude.{◌≡◌, ⊤, ℕ, List, [], ◌∷◌, ◌++◌, length, map, Option, Some, None, Bool, true, false, is_some, Result, Ok, Err}
use Rattle.sk_base.specs.declared.Elem.{Elem}
use Rattle.sk_base.specs.declared.ConId.{ConId}
use Rattle.sk_base.specs.declared.Sketch.{Sketch}
use Rattle.sk_lines.specs.Words.{bytes_of, StandInOrder}
use Rattle.sk_lines.specs.declared.Keyword.{Keyword}
use Rattle.sk_lines.specs.declared.Code.{Code}
use Rattle.sk_entry.specs.declared.entry.Entry.{Entry}
use Rattle.sk_entry.specs.declared.entry.Entry.TheVariants.{Blank, Element, Constraint, Other}
use Rattle.sk_lines.specs.declared.EntryError.{EntryError}
use Rattle.sk_lines.specs.declared.EntryError.TheVariants.{Refused}
use Rattle.sk_lines.specs.declared.Version.{Version}
use Rattle.sk_lines.specs.Comments.{words_under}
use Rattle.sk_lines.specs.Keywords.{keyword_of}
use Rattle.sk_lines.specs.ByteCodes.{byte_rows}
use Rattle.sk_entry.specs.EntryCodes.{entry_rows}
use Rattle.sk_lines.specs.FirstCode.{first_code}
use Rattle.sk_entry.specs.Meaning.{entry_made}

-- the codes of a line whose first word is a keyword
abbrev pub keyword_rows : Sketch → Option Keyword → List (List ℕ) → List (Bool × Code)
keyword_rows s None rest = []
keyword_rows s (Some k) rest = entry_rows s k rest

abbrev pub rows_of : Version → Sketch → List (List ℕ) → List (Bool × Code)
rows_of v s [] = []
rows_of v s (first ∷ rest) = keyword_rows s (keyword_of v first) rest

-- the code of a line that has a wrong byte, is too long or begins with a keyword of the version
abbrev pub entry_code : Version → Sketch → List ℕ → Option Code
entry_code v s line = first_code (byte_rows line ++ rows_of v s (words_under v line))

abbrev pub IsOther : Version → List ℕ → Entry → Type 0
IsOther v line (Other words) = (map (bytes_of line) words.items ≡ words_under v line) × StandInOrder 0 words.items (length line)
IsOther v line _ = ⊥

abbrev pub IsKeywordEntry : Version → Sketch → List ℕ → Option Keyword → List (List ℕ) → Elem → ConId → Entry → Type 0
IsKeywordEntry v s line None rest elem con entry = IsOther v line entry
IsKeywordEntry v s line (Some k) rest elem con entry = entry_made s k rest elem con ≡ Some entry

abbrev pub IsEntryOfWords : Version → Sketch → List ℕ → List (List ℕ) → Elem → ConId → Entry → Type 0
IsEntryOfWords v s line [] elem con entry = entry ≡ Blank
IsEntryOfWords v s line (first ∷ rest) elem con entry = IsKeywordEntry v s line (keyword_of v first) rest elem con entry

-- what a line without such a code says
abbrev pub IsEntryOf : Version → Sketch → List ℕ → Elem → ConId → Entry → Type 0
IsEntryOf v s line elem con entry = IsEntryOfWords v s line (words_under v line) elem con entry

-- the line begins with a keyword of the version, or with another word
pub record Begins (v : Version) (ws : List (List ℕ)) (with_keyword : Bool) : Type 0 where
  pub first : List ℕ
  pub rest : List (List ℕ)
  pub words : ws ≡ first ∷ rest
  pub keyword : is_some (keyword_of v first) ≡ with_keyword

-- An element or a constraint stands on a line that begins with a keyword, another line begins with another word
-- and is told by all its words, and a blank line has no words.
abbrev pub StandsOn : Version → List ℕ → Entry → Type 0
StandsOn v line Blank = words_under v line ≡ []
StandsOn v line (Element e) = Begins v (words_under v line) true
StandsOn v line (Constraint c) = Begins v (words_under v line) true
StandsOn v line (Other words) = Begins v (words_under v line) false × IsOther v line (Other words)

-- an element or a constraint has the number that was to be given
abbrev pub IsNumbered : Elem → ConId → Entry → Type 0
IsNumbered elem con (Element e) = e.number ≡ elem
IsNumbered elem con (Constraint c) = c.number ≡ con
IsNumbered elem con _ = ⊤

-- what a line says, or the code that refuses it
abbrev pub told : {X : Type 0} → (X → Entry) → Result X Code → Result Entry EntryError
told entry (Ok x) = Ok (entry x)
told entry (Err code) = Err (Refused code)
