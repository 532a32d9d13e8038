-- A line within a sketch, by what its entry says.
use Rattle.std.proofs.Common.{◌≡◌, ℕ, Bool, true, false, List, [], ◌∷◌, map, Option, Some, None, Result, Ok, Err, IsErr, IsErrAnd, IfErr, MatchResult, refl, sym, ap, ◌∙◌, subst}
use Rattle.sk_base.specs.declared.Sketch.{Sketch}
use Rattle.sk_base.proofs.Tables.{passed}
use Rattle.sk_lines.specs.declared.Words.{Words}
use Rattle.sk_lines.specs.Words.{is_too_long, has_wrong_byte, bytes_of}
use Rattle.sk_lines.specs.declared.Code.{Code}
use Rattle.sk_lines.specs.declared.Code.TheVariants.{E15, E19}
use Rattle.sk_lines.specs.declared.EntryError.{EntryError}
use Rattle.sk_lines.specs.declared.EntryError.TheVariants.{Refused, NoMemory}
use Rattle.sk_lines.specs.declared.Keyword.{Keyword}
use Rattle.sk_lang.specs.declared.progress.Progress.TheVariants.{Within, After}
use Rattle.sk_lines.specs.declared.Version.{Version}
use Rattle.sk_lang.specs.Codes.{code_of, word_rows, rows_within, other_rows}
use Rattle.sk_lines.specs.Comments.{words_under}
use Rattle.sk_lines.specs.Refusals.{IsRefusal}
use Rattle.sk_entry.specs.Entry.{keyword_rows, rows_of, entry_code}
use Rattle.sk_lines.specs.FirstCode.{first_code}
use Rattle.sk_lines.specs.Keywords.{keyword_of}
use Rattle.sk_entry.proofs.Declaring.{SaysOther}
use Rattle.sk_lang.specs.Progress.{progress_after, progress_after_words, progress_within}

by_keyword : (s : Sketch) (k : Option Keyword) (first : List ℕ) (rest : List (List ℕ)) (e : EntryError) → IsRefusal (first_code (keyword_rows s k rest)) e → IsRefusal (first_code (rows_within s k (first ∷ rest))) e
by_keyword s (Some k) first rest e is = is
by_keyword s None first rest (Refused code) is = (let never : None ≡ Some code = is in absurd cc)
by_keyword s None first rest NoMemory is = tt

by_words : (v : Version) (s : Sketch) (a b : Bool) (ws : List (List ℕ)) (e : EntryError) → IsRefusal (first_code ((a, E15) ∷ (b, E19) ∷ rows_of v s ws)) e → IsRefusal (first_code ((a, E15) ∷ (b, E19) ∷ word_rows (Within v s) ws)) e
by_words v s true b ws e is = is
by_words v s false true ws e is = is
by_words v s false false [] e is = is
by_words v s false false (first ∷ rest) e is = by_keyword s (keyword_of v first) first rest e is

-- a refusal of an entry is that of its line
pub entry_refused : {X : Type 0} (v : Version) (s : Sketch) (line : List ℕ) (r : Result X EntryError) (e : EntryError) → IsErr r × IsErrAnd r (λ x. x ≡ e) → IsRefusal (entry_code v s line) e → IfErr r (IsRefusal (code_of (Within v s) line))
entry_refused v s line (Ok x) e refused is = tt
entry_refused v s line (Err d) e refused is = subst (IsRefusal (code_of (Within v s) line)) (sym refused.1) (by_words v s (is_too_long line) (has_wrong_byte line) (words_under v line) e is)

-- a line that begins with no keyword has the code of such a line
pub other_code : (v : Version) (s : Sketch) (line : List ℕ) (words : Words) → entry_code v s line ≡ None → SaysOther v line words → code_of (Within v s) line ≡ first_code (other_rows s (map (bytes_of line) words.items))
other_code v s line words clean other =
    let long = passed (is_too_long line) E15 (first_code ((has_wrong_byte line, E19) ∷ rows_of v s (words_under v line))) clean in
    let wrong = passed (has_wrong_byte line) E19 (first_code (rows_of v s (words_under v line))) long.1 in
    rw (other.bytes, long.0, wrong.0, other.whole, other.keyword) refl

pub other_refused : {X : Type 0} (r : Result X EntryError) (fine : X → Type 0) (a b : Option Code) → MatchResult r fine (IsRefusal a) → a ≡ b → IfErr r (IsRefusal b)
other_refused (Ok x) fine a b is same = tt
other_refused (Err e) fine a b is same = subst (λ (code : Option Code). IsRefusal code e) same is

-- such a line ends the sketch
pub other_ends : (v : Version) (s : Sketch) (line : List ℕ) (words : Words) → SaysOther v line words → progress_after (Within v s) line ≡ After v s
other_ends v s line words other = ap (progress_after_words (Within v s)) other.whole ∙ ap (λ (k : Option Keyword). progress_within v s k other.rest) other.keyword
