-- A text is read as a sound sketch with an element, line by line.
use Rattle.std.proofs.Common.{◌≡◌, ℕ, ◌+◌, ◌<◌, Bool, true, false, not, cond, List, [], ◌∷◌, length, Option, Some, None, refl, sym, ap, subst, arith, bytes_eq, codes}
use Rattle.std.proofs.lemmas.List.Elements.{All-weaker}
use Rattle.sk_base.specs.declared.Elem.{Elem}
use Rattle.sk_base.specs.declared.ConId.{ConId}
use Rattle.sk_base.specs.declared.Element.{Element}
use Rattle.sk_base.specs.declared.Constraint.{Constraint}
use Rattle.sk_base.specs.declared.Shape.{Shape}
use Rattle.sk_base.specs.declared.Rule.{Rule}
use Rattle.sk_base.specs.declared.Sketch.{Sketch}
use Rattle.sk_base.specs.SoundSketch.{IsSoundSketch}
use Rattle.sk_lines.specs.Words.{is_too_long, has_wrong_byte}
use Rattle.sk_lines.specs.declared.Code.{Code}
use Rattle.sk_lines.specs.declared.Code.TheVariants.{E2, E3, E15, E18, E19}
use Rattle.sk_lines.specs.declared.Version.{Version}
use Rattle.sk_lines.specs.declared.Keyword.{Keyword}
use Rattle.sk_entry.specs.declared.Entry.{Entry}
use Rattle.sk_entry.specs.declared.Entry.TheVariants as entry
use Rattle.sk_lang.specs.declared.progress.Progress.{Progress}
use Rattle.sk_lang.specs.declared.progress.Progress.TheVariants.{Before, Within, After}
use Rattle.sk_lang.specs.Header.{words_at}
use Rattle.sk_lines.specs.Lines.{lines_in}
use Rattle.sk_lines.specs.Keywords.{keyword_of, declares}
use Rattle.sk_lines.specs.FirstCode.{first_code}
use Rattle.sk_lang.specs.Codes.{code_of, rows_within, word_rows}
use Rattle.sk_lines.specs.EndLine.{is_none_left}
use Rattle.sk_entry.specs.EntryCodes.{entry_rows}
use Rattle.sk_entry.specs.Growth.{empty_sketch}
use Rattle.sk_entry.specs.Meaning.{shape_drawn, rule_asked, element_with, constraint_with, entry_made, added}
use Rattle.sk_lang.specs.Progress.{next_elem, next_con, progress_within, progress_after_words, progress_after}
use Rattle.sk_lang.specs.Reading.{Reads, HaveNoCode, progress_along}
use Rattle.sk_base.proofs.Tables.{passed}
use Rattle.sk_lang.specs.Renumbered.{renumbered}
use Rattle.sk_lang.proofs.SameNumbers.{CountOn, count_push, count_below, renumbered_same}
use Rattle.sk_lines.proofs.LineWords.{BeginsLine, begins_line}
use Rattle.sk_entry.proofs.Passing.{passes_from}
use Rattle.sk_entry.proofs.Declaring.{no_element}
use Rattle.sk_entry.proofs.Growing.{empty_sound}
use Rattle.sk_entry.proofs.Sound.{AreAbove, grows}

-- a sound sketch so far, whose numbers are counts
record IsCounted (s : Sketch) : Type 0 where
  sound : IsSoundSketch s
  elements : CountOn (λ (x : Element). x.number.0) 1 s.elements
  constraints : CountOn (λ (x : Constraint). x.number.0) 1 s.constraints

abbrev IsSoundProgress : Progress → Type 0
IsSoundProgress Before = Unit {0}
IsSoundProgress (Within v s) = IsCounted s
IsSoundProgress (After v s) = IsCounted s × (0 < length s.elements)

empty_counted : IsCounted empty_sketch
empty_counted = record {
  sound = empty_sound;
  elements = tt;
  constraints = tt;
}

element_number : Option Entry → ℕ → ℕ
element_number None n = n
element_number (Some (entry.Element e)) n = e.number.0
element_number (Some _) n = n

constraint_number : Option Entry → ℕ → ℕ
constraint_number None n = n
constraint_number (Some (entry.Constraint c)) n = c.number.0
constraint_number (Some _) n = n

element_given : (elem : Elem) (name : List ℕ) (shape : Option Shape) (e : Element) → element_with elem name shape ≡ Some (entry.Element e) → e.number.0 ≡ elem.0
unfolding element_number
element_given elem name None e is = cc
element_given elem name (Some shape) e is = sym (ap (λ (o : Option Entry). element_number o 0) is)

constraint_given : (con : ConId) (rule : Option Rule) (c : Constraint) → constraint_with con rule ≡ Some (entry.Constraint c) → c.number.0 ≡ con.0
unfolding constraint_number
constraint_given con None c is = cc
constraint_given con (Some rule) c is = sym (ap (λ (o : Option Entry). constraint_number o 0) is)

no_constraint : (elem : Elem) (name : List ℕ) (shape : Option Shape) (c : Constraint) → element_with elem name shape ≡ Some (entry.Constraint c) → ⊥
no_constraint elem name None c is = cc
no_constraint elem name (Some shape) c is = cc

-- the number that was given
pub element_made : (s : Sketch) (k : Keyword) (rest : List (List ℕ)) (elem : Elem) (con : ConId) (e : Element) → entry_made s k rest elem con ≡ Some (entry.Element e) → e.number.0 ≡ elem.0
element_made s k [] elem con e is = cc
element_made s k (first ∷ rest) elem con e is = by (declares k) is
  where
    by : (t : Bool) → cond t (element_with elem first (shape_drawn k rest)) (constraint_with con (rule_asked s k (first ∷ rest))) ≡ Some (entry.Element e) → e.number.0 ≡ elem.0
    by true made = element_given elem first (shape_drawn k rest) e made
    by false made = absurd (no_element con (rule_asked s k (first ∷ rest)) e made)

pub constraint_made : (s : Sketch) (k : Keyword) (rest : List (List ℕ)) (elem : Elem) (con : ConId) (c : Constraint) → entry_made s k rest elem con ≡ Some (entry.Constraint c) → c.number.0 ≡ con.0
constraint_made s k [] elem con c is = cc
constraint_made s k (first ∷ rest) elem con c is = by (declares k) is
  where
    by : (t : Bool) → cond t (element_with elem first (shape_drawn k rest)) (constraint_with con (rule_asked s k (first ∷ rest))) ≡ Some (entry.Constraint c) → c.number.0 ≡ con.0
    by true made = absurd (no_constraint elem first (shape_drawn k rest) c made)
    by false made = constraint_given con (rule_asked s k (first ∷ rest)) c made

next_above : (s : Sketch) → IsCounted s → AreAbove s (next_elem s) (next_con s)
next_above s counted = record {
  elements = All-weaker (λ (x : Element). x.number.0 < 1 + length s.elements) (λ (x : Element). x.number.0 < length s.elements + 1) (λ x below. omega arith) s.elements (count_below (λ (x : Element). x.number.0) 1 s.elements counted.elements);
  constraints = All-weaker (λ (x : Constraint). x.number.0 < 1 + length s.constraints) (λ (x : Constraint). x.number.0 < length s.constraints + 1) (λ x below. omega arith) s.constraints (count_below (λ (x : Constraint). x.number.0) 1 s.constraints counted.constraints);
}

counted_with : (s : Sketch) (k : Keyword) (rest : List (List ℕ)) (said : Entry) → IsCounted s → entry_made s k rest (next_elem s) (next_con s) ≡ Some said → IsSoundSketch (added s (Some said)) → IsCounted (added s (Some said))
counted_with s k rest (entry.Element e) counted made sound =
    let number = element_made s k rest (next_elem s) (next_con s) e made in
    record {
      sound = sound;
      elements = count_push (λ (x : Element). x.number.0) 1 s.elements e counted.elements (omega (arith, number));
      constraints = counted.constraints;
    }
counted_with s k rest (entry.Constraint c) counted made sound =
    let number = constraint_made s k rest (next_elem s) (next_con s) c made in
    record {
      sound = sound;
      elements = counted.elements;
      constraints = count_push (λ (x : Constraint). x.number.0) 1 s.constraints c counted.constraints (omega (arith, number));
    }
counted_with s k rest entry.Blank counted made sound = counted
counted_with s k rest (entry.Other words) counted made sound = counted

counted_by : (v : Version) (s : Sketch) (k : Keyword) (rest : List (List ℕ)) (said : Option Entry) → IsCounted s → BeginsLine v k rest → first_code (entry_rows s k rest) ≡ None → entry_made s k rest (next_elem s) (next_con s) ≡ said → IsCounted (added s said)
counted_by v s k rest None counted begins clean made = counted
counted_by v s k rest (Some said) counted begins clean made =
    counted_with s k rest said counted made (grows v s k rest (next_elem s) (next_con s) said counted.sound (next_above s counted) begins (passes_from s k rest clean) made)

some_left : (es : List Element) → is_none_left es ≡ false → 0 < length es
some_left [] some = cc
some_left (e ∷ es) some = omega arith

sound_by : (v : Version) (s : Sketch) (k : Option Keyword) (first : List ℕ) (rest : List (List ℕ)) → IsCounted s → ((word : Keyword) → k ≡ Some word → BeginsLine v word rest) → first_code (rows_within s k (first ∷ rest)) ≡ None → IsSoundProgress (progress_within v s k rest)
sound_by v s (Some k) first rest counted begins clean = counted_by v s k rest (entry_made s k rest (next_elem s) (next_con s)) counted (begins k refl) clean refl
sound_by v s None first rest counted begins clean =
    let last : Option Code = cond (is_none_left s.elements) (Some E18) None in
    let known = passed (not (bytes_eq first (codes "end"))) E2 (cond (not (is_none_left rest)) (Some E3) last) clean in
    let alone = passed (not (is_none_left rest)) E3 last known.1 in
    let some = passed (is_none_left s.elements) E18 None alone.1 in (counted, some_left s.elements some.0)

sound_words : (progress : Progress) (line : List ℕ) (ws : List (List ℕ)) → is_too_long line ≡ false → words_at progress line ≡ ws → first_code (word_rows progress ws) ≡ None → IsSoundProgress progress → IsSoundProgress (progress_after_words progress ws)
sound_words Before line [] short words clean sound = tt
sound_words Before line (first ∷ rest) short words clean sound = empty_counted
sound_words (Within v s) line [] short words clean sound = sound
sound_words (Within v s) line (first ∷ rest) short words clean sound = sound_by v s (keyword_of v first) first rest sound (λ k keyword. begins_line v line first rest k short words keyword) clean
sound_words (After v s) line [] short words clean sound = sound
sound_words (After v s) line (first ∷ rest) short words clean sound = cc

sound_line : (progress : Progress) (line : List ℕ) → code_of progress line ≡ None → IsSoundProgress progress → IsSoundProgress (progress_after progress line)
sound_line progress line clean sound =
    let long = passed (is_too_long line) E15 (first_code ((has_wrong_byte line, E19) ∷ word_rows progress (words_at progress line))) clean in
    let wrong = passed (has_wrong_byte line) E19 (first_code (word_rows progress (words_at progress line))) long.1 in
    sound_words progress line (words_at progress line) long.0 refl wrong.1 sound

sound_along : (lines : List (List ℕ)) (progress : Progress) → HaveNoCode progress lines → IsSoundProgress progress → IsSoundProgress (progress_along progress lines)
sound_along [] progress clean sound = sound
sound_along (line ∷ lines) progress clean sound = sound_along lines (progress_after progress line) clean.1 (sound_line progress line clean.0 sound)

-- what a text is read as, with an element
readable_counted : (bytes : List ℕ) (s : Sketch) → Reads bytes s → IsCounted s × (0 < length s.elements)
readable_counted bytes s reads = subst IsSoundProgress reads.ended (sound_along (lines_in bytes) Before reads.clean tt)

pub readable_sound : (bytes : List ℕ) (s : Sketch) → Reads bytes s → IsSoundSketch s × (0 < length s.elements)
readable_sound bytes s reads = let read = readable_counted bytes s reads in (read.0.sound, read.1)

-- what is read is numbered from 1
pub readable_numbered : (bytes : List ℕ) (s : Sketch) → Reads bytes s → renumbered s ≡ s
readable_numbered bytes s reads = let read = (readable_counted bytes s reads).0 in renumbered_same s read.sound read.elements read.constraints
