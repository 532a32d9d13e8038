-- What a line that says something tells of its words.
use Rattle.std.proofs.Common.{◌≡◌, ℕ, ◌<◌, Bool, true, false, ◌||◌, cond, List, [], ◌∷◌, length, map, Option, Some, None, is_some, refl, sym, ap, ◌∙◌, arith}
use Rattle.std.proofs.lemmas.List.{length-map}
use Rattle.sk_base.specs.declared.Elem.{Elem}
use Rattle.sk_base.specs.declared.ConId.{ConId}
use Rattle.sk_base.specs.declared.Element.{Element}
use Rattle.sk_base.specs.declared.Shape.{Shape}
use Rattle.sk_base.specs.declared.Rule.{Rule}
use Rattle.sk_base.specs.declared.Sketch.{Sketch}
use Rattle.sk_lines.specs.declared.Words.{Words}
use Rattle.sk_lines.specs.Words.{bytes_of, is_too_long, has_wrong_byte}
use Rattle.sk_lines.specs.declared.Code.TheVariants.{E15, E19}
use Rattle.sk_lines.specs.declared.Version.{Version}
use Rattle.sk_lines.specs.declared.Keyword.{Keyword}
use Rattle.sk_lines.specs.declared.Keyword.TheVariants.{Point, Line, Circle, Distance, On, Tangent, Outside, Inside, Angle, Block}
use Rattle.sk_entry.specs.declared.entry.Entry.{Entry}
use Rattle.sk_entry.specs.declared.entry.Entry.TheVariants as entry
use Rattle.sk_lines.specs.Comments.{words_under}
use Rattle.sk_lines.specs.Keywords.{keyword_of, declares}
use Rattle.sk_entry.specs.Named.{element_named}
use Rattle.sk_lines.specs.FirstCode.{first_code}
use Rattle.sk_entry.specs.Meaning.{shape_drawn, rule_asked, element_with, constraint_with, entry_made}
use Rattle.sk_entry.specs.Entry.{keyword_rows, rows_of, entry_code, IsKeywordEntry, IsEntryOfWords, IsEntryOf}
use Rattle.sk_base.proofs.Tables.{passed}
use Rattle.sk_lines.proofs.LineWords.{BeginsLine, begins_line}
use Rattle.sk_entry.proofs.Passing.{Passes, passes_from}

-- an element or a constraint
abbrev pub is_declared : Entry → Bool
is_declared (entry.Element e) = true
is_declared (entry.Constraint c) = true
is_declared _ = false

-- the words that declare it have no code
pub record Declares (v : Version) (s : Sketch) (elem : Elem) (con : ConId) (said : Entry) : Type 0 where
  pub keyword : Keyword
  pub rest : List (List ℕ)
  pub begins : BeginsLine v keyword rest
  pub passes : Passes s keyword rest
  pub made : entry_made s keyword rest elem con ≡ Some said

by_keyword : (v : Version) (s : Sketch) (line : List ℕ) (k : Option Keyword) (rest : List (List ℕ)) (elem : Elem) (con : ConId) (said : Entry) → ((word : Keyword) → k ≡ Some word → BeginsLine v word rest) → first_code (keyword_rows s k rest) ≡ None → IsKeywordEntry v s line k rest elem con said → is_declared said ≡ true → Declares v s elem con said
by_keyword v s line None rest elem con (entry.Element e) begins clean is is_one = absurd is
by_keyword v s line None rest elem con (entry.Constraint c) begins clean is is_one = absurd is
by_keyword v s line None rest elem con entry.Blank begins clean is is_one = absurd is
by_keyword v s line None rest elem con (entry.Other ws) begins clean is is_one = cc
by_keyword v s line (Some k) rest elem con said begins clean is is_one = record { keyword = k; rest = rest; begins = begins k refl; passes = passes_from s k rest clean; made = is }

by_words : (v : Version) (s : Sketch) (line : List ℕ) (ws : List (List ℕ)) (elem : Elem) (con : ConId) (said : Entry) → is_too_long line ≡ false → words_under v line ≡ ws → first_code (rows_of v s ws) ≡ None → IsEntryOfWords v s line ws elem con said → is_declared said ≡ true → Declares v s elem con said
by_words v s line [] elem con said short words clean is is_one = let no = ap is_declared is in absurd cc
by_words v s line (first ∷ rest) elem con said short words clean is is_one = by_keyword v s line (keyword_of v first) rest elem con said (λ k keyword. begins_line v line first rest k short words keyword) clean is is_one

pub declares_by : (v : Version) (s : Sketch) (line : List ℕ) (elem : Elem) (con : ConId) (said : Entry) → entry_code v s line ≡ None → IsEntryOf v s line elem con said → is_declared said ≡ true → Declares v s elem con said
declares_by v s line elem con said clean is is_one =
    let long = passed (is_too_long line) E15 (first_code ((has_wrong_byte line, E19) ∷ rows_of v s (words_under v line))) clean in
    let wrong = passed (has_wrong_byte line) E19 (first_code (rows_of v s (words_under v line))) long.1 in by_words v s line (words_under v line) elem con said long.0 refl wrong.1 is is_one

-- a name that is declared is a name, and new
pub first_of_two : (a b : Bool) → (a || b) ≡ false → (a ≡ false) × (b ≡ false)
first_of_two true b is = cc
first_of_two false b is = (refl, is)

not_some : {X : Type 0} (o : Option X) → is_some o ≡ false → o ≡ None
not_some None is = refl
not_some (Some x) is = cc

label_of : Option Entry → List ℕ → List ℕ
label_of None none = none
label_of (Some (entry.Element e)) none = e.label
label_of (Some _) none = none

label_with : (number : Elem) (name : List ℕ) (shape : Option Shape) (e : Element) → element_with number name shape ≡ Some (entry.Element e) → e.label ≡ name
unfolding label_of
label_with number name None e is = cc
label_with number name (Some shape) e is = sym (ap (λ (o : Option Entry). label_of o name) is)

pub no_element : (number : ConId) (rule : Option Rule) (e : Element) → constraint_with number rule ≡ Some (entry.Element e) → ⊥
no_element number None e is = cc
no_element number (Some rule) e is = cc

pub free_from : (s : Sketch) (name label : List ℕ) → is_some (element_named s name) ≡ false → label ≡ name → element_named s label ≡ None
free_from s name label free same = ap (element_named s) same ∙ not_some (element_named s name) free

free_name : (s : Sketch) (k : Keyword) (rest : List (List ℕ)) (elem : Elem) (con : ConId) (e : Element) → Passes s k rest → entry_made s k rest elem con ≡ Some (entry.Element e) → element_named s e.label ≡ None
free_name s k [] elem con e p made = cc
free_name s Point (name ∷ rest) elem con e p made = free_from s name e.label (first_of_two _ _ p.free).0 (label_with elem name (shape_drawn Point rest) e made)
free_name s Line (name ∷ rest) elem con e p made = free_from s name e.label (first_of_two _ _ p.free).0 (label_with elem name (shape_drawn Line rest) e made)
free_name s Circle (name ∷ rest) elem con e p made = free_from s name e.label (first_of_two _ _ p.free).0 (label_with elem name (shape_drawn Circle rest) e made)
free_name s Distance (u ∷ rest) elem con e p made = absurd (no_element con (rule_asked s Distance (u ∷ rest)) e made)
free_name s On (u ∷ rest) elem con e p made = absurd (no_element con (rule_asked s On (u ∷ rest)) e made)
free_name s Tangent (u ∷ rest) elem con e p made = absurd (no_element con (rule_asked s Tangent (u ∷ rest)) e made)
free_name s Outside (u ∷ rest) elem con e p made = absurd (no_element con (rule_asked s Outside (u ∷ rest)) e made)
free_name s Inside (u ∷ rest) elem con e p made = absurd (no_element con (rule_asked s Inside (u ∷ rest)) e made)
free_name s Angle (u ∷ rest) elem con e p made = absurd (no_element con (rule_asked s Angle (u ∷ rest)) e made)
free_name s Block (u ∷ rest) elem con e p made = absurd (no_element con (rule_asked s Block (u ∷ rest)) e made)

pub element_is_new : (v : Version) (s : Sketch) (line : List ℕ) (elem : Elem) (con : ConId) (e : Element) → entry_code v s line ≡ None → IsEntryOf v s line elem con (entry.Element e) → element_named s e.label ≡ None
element_is_new v s line elem con e clean is =
    let d = declares_by v s line elem con (entry.Element e) clean is refl in free_name s d.keyword d.rest elem con e d.passes d.made

-- a line whose first word is no keyword
pub record SaysOther (v : Version) (line : List ℕ) (words : Words) : Type 0 where
  pub first : List ℕ
  pub rest : List (List ℕ)
  pub whole : words_under v line ≡ first ∷ rest
  pub keyword : keyword_of v first ≡ None
  pub bytes : map (bytes_of line) words.items ≡ words_under v line

no_other_element : (elem : Elem) (name : List ℕ) (shape : Option Shape) (words : Words) → element_with elem name shape ≡ Some (entry.Other words) → ⊥
no_other_element elem name None words is = cc
no_other_element elem name (Some shape) words is = cc

no_other_constraint : (con : ConId) (rule : Option Rule) (words : Words) → constraint_with con rule ≡ Some (entry.Other words) → ⊥
no_other_constraint con None words is = cc
no_other_constraint con (Some rule) words is = cc

no_other : (s : Sketch) (k : Keyword) (rest : List (List ℕ)) (elem : Elem) (con : ConId) (words : Words) → entry_made s k rest elem con ≡ Some (entry.Other words) → ⊥
no_other s k [] elem con words is = cc
no_other s k (first ∷ rest) elem con words is = by (declares k) is
  where
    by : (t : Bool) → cond t (element_with elem first (shape_drawn k rest)) (constraint_with con (rule_asked s k (first ∷ rest))) ≡ Some (entry.Other words) → ⊥
    by true e = no_other_element elem first (shape_drawn k rest) words e
    by false e = no_other_constraint con (rule_asked s k (first ∷ rest)) words e

other_by_keyword : (v : Version) (s : Sketch) (line first : List ℕ) (rest : List (List ℕ)) (elem : Elem) (con : ConId) (words : Words) (k : Option Keyword) → words_under v line ≡ first ∷ rest → keyword_of v first ≡ k → IsKeywordEntry v s line k rest elem con (entry.Other words) → SaysOther v line words
other_by_keyword v s line first rest elem con words None whole none is = record { first = first; rest = rest; whole = whole; keyword = none; bytes = is.0 }
other_by_keyword v s line first rest elem con words (Some k) whole some is = absurd (no_other s k rest elem con words is)

other_by_words : (v : Version) (s : Sketch) (line : List ℕ) (ws : List (List ℕ)) (elem : Elem) (con : ConId) (words : Words) → words_under v line ≡ ws → IsEntryOfWords v s line ws elem con (entry.Other words) → SaysOther v line words
other_by_words v s line [] elem con words whole is = cc
other_by_words v s line (first ∷ rest) elem con words whole is = other_by_keyword v s line first rest elem con words (keyword_of v first) whole refl is

pub says_other : (v : Version) (s : Sketch) (line : List ℕ) (elem : Elem) (con : ConId) (words : Words) → IsEntryOf v s line elem con (entry.Other words) → SaysOther v line words
says_other v s line elem con words is = other_by_words v s line (words_under v line) elem con words refl is

pub other_has_words : (v : Version) (line : List ℕ) (words : Words) → SaysOther v line words → 0 < length words.items
other_has_words v line words other =
    let count = sym (length-map words.items (bytes_of line)) ∙ ap length (other.bytes ∙ other.whole) in omega arith
