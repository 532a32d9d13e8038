-- A line without a code says something.
use Rattle.std.proofs.Common.{◌≡◌, inl, inr, refl, ℕ, zero, suc, ◌+◌, ◌-◌, ◌≤◌, false, not, List, [], ◌∷◌, ◌++◌, length, length-drop, drop, take, subst, ap, sym, ◌∙◌, Option, None, Some, arith, append-nil}
use Rattle.std.specs.Prelude.{map, nat_eq}
use Rattle.std.specs.List.{position_or_len}
use Rattle.std.proofs.lemmas.List.Sums.{prefix_len-le-length}
use Rattle.std.proofs.lemmas.Bool.{cases_lt}
use Rattle.std.proofs.lemmas.Bool.Decides.{nat_tests}
use Rattle.std.proofs.lemmas.List.{drop_all, length-take-le}
use Rattle.sk_base.specs.declared.Elem.{Elem}
use Rattle.sk_base.specs.declared.ConId.{ConId}
use Rattle.sk_base.specs.declared.Sketch.{Sketch}
use Rattle.sk_base.proofs.Tables.{passed}
use Rattle.sk_lines.specs.declared.Word.{Word}
use Rattle.sk_lines.specs.declared.Words.{Words}
use Rattle.sk_lines.specs.Words.{is_too_long, has_wrong_byte, is_blank, words_in, bytes_of, StandInOrder}
use Rattle.sk_lines.proofs.Splitting.{words_of_front, words_in-skip, words_in-word_at, words_in-pushed, StandInOrder-push, StandInOrder-wider}
use Rattle.sk_lines.specs.declared.Code.TheVariants.{E15, E19}
use Rattle.sk_entry.specs.declared.entry.Entry.{Entry}
use Rattle.sk_entry.specs.declared.entry.Entry.TheVariants as entry
use Rattle.sk_lines.specs.declared.Version.{Version}
use Rattle.sk_lines.specs.declared.Version.TheVariants.{One, Two}
use Rattle.sk_lines.specs.declared.Keyword.{Keyword}
use Rattle.sk_lines.specs.declared.Keyword.TheVariants.{Point, Line, Circle, Distance, On, Tangent, Outside, Inside, Angle, Block}
use Rattle.sk_lines.specs.FirstCode.{first_code}
use Rattle.sk_lines.specs.Comments.{is_hash, words_under}
use Rattle.sk_lines.specs.Keywords.{keyword_of, places}
use Rattle.sk_entry.specs.Meaning.{entry_made}
use Rattle.sk_entry.specs.Entry.{keyword_rows, rows_of, entry_code, IsOther, IsKeywordEntry, IsEntryOfWords, IsEntryOf}
use Rattle.sk_entry.proofs.Passing.{passes_from}

-- as many words as the keyword asks for make an entry
made_by : (s : Sketch) (k : Keyword) (rest : List (List ℕ)) (elem : Elem) (con : ConId) → not (nat_eq (length rest) (length (places k (length rest)))) ≡ false → (x : Entry) × (entry_made s k rest elem con ≡ Some x)
made_by s Point (n ∷ x ∷ y ∷ []) elem con count = (_, refl)
made_by s Line (n ∷ x ∷ y ∷ z ∷ u ∷ []) elem con count = (_, refl)
made_by s Circle (n ∷ x ∷ y ∷ r ∷ []) elem con count = (_, refl)
made_by s Distance (u ∷ v ∷ len ∷ []) elem con count = (_, refl)
made_by s On (u ∷ v ∷ []) elem con count = (_, refl)
made_by s Tangent (u ∷ v ∷ []) elem con count = (_, refl)
made_by s Outside (u ∷ v ∷ []) elem con count = (_, refl)
made_by s Inside (u ∷ v ∷ []) elem con count = (_, refl)
made_by s Angle (l ∷ m ∷ word ∷ []) elem con count = (_, refl)
made_by s Block [] elem con count = cc
made_by s Block (first ∷ rest) elem con count = (_, refl)
made_by s k rest elem con count = absurd (grind (arith, nat_tests))

-- the words of a line, each where it stands
module _ (line : List ℕ) where
  abbrev AreAll : List Word → Type 0
  AreAll items = (map (bytes_of line) items ≡ words_in line) × StandInOrder 0 items (length line)

  all_from : (most at : ℕ) (items : List Word) → at ≤ length line → length line - at ≤ most → map (bytes_of line) items ++ words_in (drop at line) ≡ words_in line → StandInOrder 0 items at → (all : List Word) × AreAll all
  all_from zero at items within few so_far order =
      let over : length line ≤ at = omega arith in
      (items, (sym (append-nil (map (bytes_of line) items)) ∙ ap (λ (bs : List ℕ). map (bytes_of line) items ++ words_in bs) (sym (drop_all at line over)) ∙ so_far, StandInOrder-wider 0 items at (length line) order within))
  all_from (suc most) at items within few so_far order =
      elim (cases_lt at (length line)) [
        | inr over ↦ (items, (sym (append-nil (map (bytes_of line) items)) ∙ ap (λ (bs : List ℕ). map (bytes_of line) items ++ words_in bs) (sym (drop_all at line over)) ∙ so_far, StandInOrder-wider 0 items at (length line) order within))
        | inl below ↦ (
            let p = position_or_len is_blank (drop at line) in
            let short = prefix_len-le-length (λ b. not (is_blank b)) (drop at line) in
            let size = length-drop at line in
            elim (cases_lt 0 p) [
              | inr none ↦ (
                  let skip = words_in-skip line at below (omega arith) in
                  all_from most (at + 1) items (omega arith) (omega arith) (ap (λ ws. map (bytes_of line) items ++ ws) (sym skip) ∙ so_far) (StandInOrder-wider 0 items at (at + 1) order (omega arith)))
              | inl more ↦ (
                  let word : Word = record { start = at; end = at + p } in
                  all_from most (at + p) (items ++ word ∷ []) (omega (arith, short, size)) (omega arith)
                  (words_in-pushed line items at p so_far (words_in-word_at line at more))
                  (StandInOrder-push 0 items at word (at + p) order (omega arith) (omega arith) (omega arith)))
            ])
      ]

  some_words : (words : Words) × AreAll words.items
  some_words =
      let found = all_from (length line) 0 [] (omega arith) (omega arith) refl (omega arith) in
      (record { items = found.0 }, found.1)

-- the words of what a line says, each where it stands in the line
other_words : (v : Version) (line : List ℕ) → (words : Words) × IsOther v line (entry.Other words)
other_words One line = some_words line
other_words Two line =
    let end = position_or_len is_hash line in
    let short = prefix_len-le-length (λ b. not (is_hash b)) line in
    let count = length-take-le end line short in
    let found = some_words (take end line) in
    let order = subst (λ (n : ℕ). StandInOrder 0 found.0.items n) count found.1.1 in
    (found.0, (sym (words_of_front line end 0 found.0.items order) ∙ found.1.0, StandInOrder-wider 0 found.0.items end (length line) order short))

by_keyword : (v : Version) (s : Sketch) (line : List ℕ) (k : Option Keyword) (rest : List (List ℕ)) (elem : Elem) (con : ConId) → first_code (keyword_rows s k rest) ≡ None → (x : Entry) × IsKeywordEntry v s line k rest elem con x
by_keyword v s line None rest elem con clean = (let found = other_words v line in (entry.Other found.0, found.1))
by_keyword v s line (Some k) rest elem con clean = made_by s k rest elem con (passes_from s k rest clean).count

by_words : (v : Version) (s : Sketch) (line : List ℕ) (ws : List (List ℕ)) (elem : Elem) (con : ConId) → first_code (rows_of v s ws) ≡ None → (x : Entry) × IsEntryOfWords v s line ws elem con x
by_words v s line [] elem con clean = (entry.Blank, refl)
by_words v s line (first ∷ rest) elem con clean = by_keyword v s line (keyword_of v first) rest elem con clean

pub some_entry : (v : Version) (s : Sketch) (line : List ℕ) (elem : Elem) (con : ConId) → entry_code v s line ≡ None → (x : Entry) × IsEntryOf v s line elem con x
some_entry v s line elem con clean =
    let long = passed (is_too_long line) E15 (first_code ((has_wrong_byte line, E19) ∷ rows_of v s (words_under v line))) clean in
    let wrong = passed (has_wrong_byte line) E19 (first_code (rows_of v s (words_under v line))) long.1 in
    by_words v s line (words_under v line) elem con wrong.1
